use Rattle.std.proofs.Common.{◌≡◌, ℕ, ◌^◌, ◌<◌, List, ◌++◌, length, replicate, drop, ap, ◌∙◌, subst, arith}
use Rattle.std.specs.Int.{w64, from_le_bytes}
use Rattle.octets.specs.Numbers.{Bytes, value}
use Rattle.octets.specs.Parts.{part}
use Rattle.octets.proofs.Numbers.{value-bound}
use Rattle.octets.proofs.Parts.{length_part, bytes-part}
use Rattle.octets.proofs.Reading.{value-word}
use Rattle.octets.proofs.Slices.{lent}
use Rattle.octets.proofs.number.Goals as goal

pub returns : goal.returns
returns c =
    let a = c.args in
    let p = part a.s.now a.at a.n in
    let size : length p ≡ a.n = length_part a.s.now a.at a.n (omega arith) in
    let copied = c.copy_from_slice.ensures.after ∙ (lent a.s.now a.at a.n (omega arith)).0 in
    let read : c.from_le_bytes.result ≡ value p = c.from_le_bytes.ensures ∙ ap (λ (x : List ℕ). from_le_bytes w64 (x ++ drop a.n (replicate 8 0))) copied ∙ value-word p a.n size (omega arith) in
    let bytes : Bytes a.s.now = record { below = λ i. (c.type_inv.s i).fits } in
    (read, subst (λ (m : ℕ). c.from_le_bytes.result < 256 ^ m) size (rw read (value-bound (bytes-part a.at a.n bytes))))
