use Rattle.std.proofs.Common.{◌≡◌, ℕ, ◌+◌, ◌-◌, refl, sym, ap, ◌∙◌, length-set, arith}
use Rattle.std.proofs.lemmas.Slice.{put_mid-paste}
use Rattle.octets.specs.Numbers.{le}
use Rattle.octets.proofs.Numbers.{length-le}
use Rattle.octets.proofs.Parts.{paste-patch}
use Rattle.octets.proofs.Slices.{lent}
use Rattle.octets.proofs.Turns.{le-written, le-rest, le_all}
use Rattle.octets.proofs.put_number.Goals as goal

pub loop-b-init : goal.loop-b-init
loop-b-init c =
    let a = c.args in
    let all : a.n ≡ a.n - 0 = omega arith in
    record {
      within = omega arith;
      size = (lent a.s.now a.at a.n (omega arith)).1;
      written = refl;
      left = ap (λ (k : ℕ). le k a.x) all;
    }

pub loop-b-preserved : goal.loop-b-preserved
loop-b-preserved c =
    let a = c.args in
    let here = c.loop-b in
    let kept = here.invariant in
    record {
      within = omega arith;
      size = simp length-set kept.size;
      written = le-written a.n here.b-index a.x here.v here.b-items (omega arith) kept.size kept.left kept.written;
      left = le-rest a.n here.b-index a.x here.v here.b-items (omega arith) kept.size kept.left;
    }

pub returns : goal.returns
returns c =
    let a = c.args in
    let here = c.loop-b in
    let size = sym (length-le a.n a.x) in
    let bytes = le_all a.n here.b-index a.x here.b-items (omega arith) here.invariant.size here.invariant.written in
    put_mid-paste a.at (a.at + a.n - a.at) a.s.now here.b-items (le a.n a.x) a.n bytes (omega arith) size
    ∙ paste-patch a.s.now a.at (le a.n a.x) a.n size
