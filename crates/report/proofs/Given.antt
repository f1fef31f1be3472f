-- How long the parts of a refusal's and of a fault's line are: they fit into 80 bytes.
-- Assumes nothing.
use Rattle.std.proofs.Common.{ℕ, ◌^◌, ◌<◌, ◌≤◌, ◌++◌, length, codes, decimal, arith}
use Rattle.std.proofs.lemmas.List.{length-append}
use Rattle.std.proofs.lemmas.Fmt.{length-decimal-le}
use Rattle.report.specs.Text.{line_feed}
use Rattle.report.specs.Refused.{place_text}

word_length : (n : ℕ) → n < 2 ^ 64 → length (decimal n) ≤ 20
word_length n h = length-decimal-le 20 n (omega arith) (omega (arith, h)) h

pub byte_length : (n : ℕ) → n < 256 → length (decimal n) ≤ 3
byte_length n h = length-decimal-le 3 n (omega arith) (omega (arith, h)) (omega (arith, h))

pub place_length : (n k : ℕ) → n < 2 ^ 64 → k < 2 ^ 64 → length (place_text n k) ≤ 55
place_length n k h j =
    omega (arith, word_length n h, word_length k j, length-append (codes " record ") (decimal n ++ (codes " byte " ++ (decimal k ++ line_feed))), length-append (decimal n) (codes " byte " ++ (decimal k ++ line_feed)), length-append (codes " byte ") (decimal k ++ line_feed), length-append (decimal k) line_feed)
