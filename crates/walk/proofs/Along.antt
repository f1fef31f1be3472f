-- A step takes a walk on along the run that it shows, and a walk starts at the run's first state.
-- Assumes nothing.
use Rattle.std.proofs.Common.{◌≡◌, ℕ, suc, List, sym, ap, ◌∙◌, subst}
use Rattle.hierarchy.specs.Meaning.{Meaning}
use Rattle.hierarchy.specs.Runs.{Run}
use Rattle.guide.specs.declared.GuideRecord.{GuideRecord}
use Rattle.guide.specs.Trees.{Guide, Good}
use Rattle.walk.specs.declared.frame.Frame.{Frame}
use Rattle.walk.specs.declared.steps.Walk.{Walk}
use Rattle.walk.specs.Walks.{shown, advance, walk}
use Rattle.walk.specs.Steps.{guide_for, guide_home, ring_home, levels, Follows}
use Rattle.walk.specs.Onward.{Along, StartsRun}
use Rattle.walk.proofs.Answered.{shown_levels}
use Rattle.walk.proofs.Endless.{walk_shows_run}

-- where a walk stands along a guide is where it stands along the run that the guide shows
along_at : (m : Meaning) (xs : List GuideRecord) (fs : List Frame) (run : Run m) (n : ℕ) (w : Walk) →
    ((k : ℕ) → shown (walk m (guide_for m xs w) k) ≡ run.state k) → Good m (guide_for m xs w) → levels m (guide_for m xs w) w fs ≡ walk m (guide_for m xs w) n → Along m xs fs run n w
along_at m xs fs run n w a g s = record { here = sym (shown_levels m (guide_for m xs w) w fs) ∙ ap shown s ∙ a n; ahead = a; good = g; stands = s }

pub along_next : (m : Meaning) (xs : List GuideRecord) (old new : List Frame) (run : Run m) (n : ℕ) (w v : Walk) → ring_home v ≡ ring_home w →
    Follows m (guide_for m xs w) w old v new → Along m xs old run n w → Along m xs new run (suc n) v
along_next m xs old new run n w v h f A =
    let e : guide_for m xs w ≡ guide_for m xs v = ap (guide_home m xs) (sym h) in
    along_at m xs new run (suc n) v
    (subst (λ (g : Guide). (k : ℕ) → shown (walk m g k) ≡ run.state k) e A.ahead)
    (subst (Good m) e A.good)
    (subst (λ (g : Guide). levels m g v new ≡ walk m g (suc n)) e (f ∙ ap (advance m (guide_for m xs w) 0) A.stands))

pub starts_run : (home : ℕ) (w : Walk) → ring_home w ≡ home → ((m : Meaning) (g : Guide) (fs : List Frame) → levels m g w fs ≡ walk m g 0) → StartsRun home w
starts_run home w h b m L fits xs fs G =
    let e : guide_home m xs home ≡ guide_for m xs w = ap (guide_home m xs) (sym h) in
    let g = subst (Good m) e G in
    let r = walk_shows_run m L fits (guide_for m xs w) g in
    record { run = r.run; often = r.often; along = along_at m xs fs r.run 0 w (λ k. sym (r.shows k)) g (b m (guide_for m xs w) fs) }
