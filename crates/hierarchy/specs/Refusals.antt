-- The refusals: their numbers, below 20 because of the input and from 20 on because of the state, and their texts.
-- Assumes nothing.
use Rattle.std.specs.Prelude.{ℕ, Bool, cond, List, [], ◌∷◌, Some, None, codes, Option}
use Rattle.hierarchy.specs.declared.refusal.Refusal.{Refusal}
use Rattle.hierarchy.specs.declared.refusal.Refusal.TheVariants.{TooManyStructures, ReservedLookBit, BoxNotBelow, BadStepLetter, UnknownKind, CutRecord, TooLittleMemory, WheelSizes, FileTooLong, NoStructure, NoPlace, NotANode, NotABox, NotAnExit, Full, AlreadyThere, NotThere, TooLarge, NoTransition, BeginMisplaced}

abbrev pub refusal_number : Refusal → ℕ
refusal_number TooManyStructures = 1
refusal_number ReservedLookBit = 2
refusal_number BoxNotBelow = 3
refusal_number BadStepLetter = 4
refusal_number UnknownKind = 5
refusal_number CutRecord = 6
refusal_number TooLittleMemory = 7
refusal_number WheelSizes = 8
refusal_number FileTooLong = 9
refusal_number NoStructure = 20
refusal_number NoPlace = 21
refusal_number NotANode = 22
refusal_number NotABox = 23
refusal_number NotAnExit = 24
refusal_number Full = 25
refusal_number AlreadyThere = 26
refusal_number NotThere = 27
refusal_number TooLarge = 28
refusal_number NoTransition = 29
refusal_number BeginMisplaced = 30

-- what is wrong, in words
abbrev pub refusal_text : Refusal → List ℕ
refusal_text TooManyStructures = codes "a chart has 1 to 32 structures"
refusal_text ReservedLookBit = codes "bits 4 to 6 of a look must be zero"
refusal_text BoxNotBelow = codes "a box must name a structure with a higher number than its own"
refusal_text BadStepLetter = codes "care and value must be at most 15, and value must have no bit outside care"
refusal_text UnknownKind = codes "unknown kind of record"
refusal_text CutRecord = codes "the file ends inside a record"
refusal_text TooLittleMemory = codes "too few guide records, frames or output bytes"
refusal_text WheelSizes = codes "a wheel has 1 to 16 levels, each of size 1 to 1022"
refusal_text FileTooLong = codes "a chart file has at most 16384 bytes"
refusal_text NoStructure = codes "there is no structure of that number"
refusal_text NoPlace = codes "there is no place or monitor state of that number"
refusal_text NotANode = codes "that place is not a node"
refusal_text NotABox = codes "that place is not a box"
refusal_text NotAnExit = codes "that is not an exit of the box's inner structure"
refusal_text Full = codes "there is no room for one more"
refusal_text AlreadyThere = codes "it is there already"
refusal_text NotThere = codes "it is not there to erase"
refusal_text TooLarge = codes "the hierarchy is too large"
refusal_text NoTransition = codes "the walk stands on no state, or the guide names no transition from it"
refusal_text BeginMisplaced = codes "a file begins with one begin, and has no other"

-- A refusal list: tests, each with the refusal that it calls for. The first whose test holds is given.
abbrev pub Refusals : Type 0
Refusals = List (Bool × Refusal)

abbrev pub first : Refusals → Option Refusal
first [] = None
first (x ∷ rest) = cond x.0 (Some x.1) (first rest)
