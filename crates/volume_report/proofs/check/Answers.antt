use Prim.Native.Nat.{ℕ}
use native.Mathlib.Omega.{arith}
use mathlib.Core.Path.{◌≡◌, sym, ap, ◌∙◌}
use lib.ListN.{replicate, length-replicate}
use lib.Seq.{length-take-le}
use Rattle.std.proofs.Common.{Err}
use Rattle.octets.specs.Answer.{taken}
use Rattle.octets.proofs.Parts.{take-replicate}
use Rattle.model.specs.declared.Refusal.TheVariants.{Malformed}
use Rattle.model.specs.Query.{query_of}
use Rattle.volume_check.specs.Check.{is_bad}
use Rattle.volume_report.specs.Report.{Report}
use Rattle.volume_report.proofs.Texts.{adds-as, checked-text}
use Rattle.volume_report.proofs.Reporting.{held-ok, held-provided, held-staging, refuses, too_long, by-query, by-recover}
use Rattle.volume_report.proofs.check.Goals as goal

pub returns-then-image : goal.returns-then-image
returns-then-image c = refuses _ c.args.text.now c.args.image.now Malformed (too_long c.args.image.now c.if-image.true)

pub returns-in_err-held : goal.returns-in_err-held
returns-in_err-held c =
    let v = c.args.image.now in
    let same : c.from_residual.result ≡ Err c.in_err-held.field-0.0 = grind arith in
    rw same (refuses _ c.args.text.now v _ (by-query v c.if-image.false _ (rw c.in_err-held.was at c.query.ensures)))

pub slice_bounds-bytes-end : goal.slice_bounds-bytes-end
slice_bounds-bytes-end c =
    held-staging c.args.image.now _ _ (rw c.in_ok-held.was at c.query.ensures) c.if-image.false

pub slice_bounds-staging-end : goal.slice_bounds-staging-end
slice_bounds-staging-end c =
    let low = held-staging c.args.image.now _ _ (rw c.in_ok-held.was at c.query.ensures) c.if-image.false in
    sym (length-take-le _ (replicate 65536 0) (omega (arith, length-replicate {A = ℕ} 65536 0, low)))

pub returns-in_err-opened : goal.returns-in_err-opened
returns-in_err-opened c =
    let v = c.args.image.now in
    let h = c.in_ok-held.held in
    let short = c.if-image.false in
    let is : taken (h.layout, h.staging) ≡ query_of 0 v = rw c.in_ok-held.was at c.query.ensures in
    let same : c.from_residual-in_err-opened.result ≡ Err c.in_err-opened.field-0.0 = grind arith in
    let empty = take-replicate _ 65536 0 (held-staging v _ _ is short) in
    rw same (refuses _ c.args.text.now c.recover.new.v _ (by-recover v short _ _ is _ empty _ (rw c.in_err-opened.was at c.recover.ensures)))

pub slice_bounds-bad-end : goal.slice_bounds-bad-end
slice_bounds-bad-end c = held-provided c.args.image.now _ _ (rw c.in_ok-held.was at c.query.ensures) c.if-image.false

pub slice_bounds-flags-end : goal.slice_bounds-flags-end
slice_bounds-flags-end c =
    let low = held-provided c.args.image.now _ _ (rw c.in_ok-held.was at c.query.ensures) c.if-image.false in
    sym (length-take-le _ (replicate 128 0) (omega (arith, length-replicate {A = ℕ} 128 0, low)))

pub put_checked-requires : goal.put_checked-requires
put_checked-requires c =
    let v = c.args.image.now in
    let h = c.in_ok-held.held in
    let short = c.if-image.false in
    let is : taken (h.layout, h.staging) ≡ query_of 0 v = rw c.in_ok-held.was at c.query.ensures in
    let low = held-provided v _ _ is short in
    let size = length-take-le {A = ℕ} h.layout.provided (replicate 128 0) (omega (arith, length-replicate {A = ℕ} 128 0, low)) in
    (held-ok v _ _ is short, omega (arith, size, c.bad_sectors-count.auto), low, c.requires)

pub returns : goal.returns
returns c =
    let v = c.args.image.now in
    let h = c.in_ok-held.held in
    let short = c.if-image.false in
    let is : taken (h.layout, h.staging) ≡ query_of 0 v = rw c.in_ok-held.was at c.query.ensures in
    let low = held-provided v _ _ is short in
    let size = length-take-le {A = ℕ} h.layout.provided (replicate 128 0) (omega (arith, length-replicate {A = ℕ} 128 0, low)) in
    let empty = take-replicate _ 65536 0 (held-staging v _ _ is short) in
    let reported = by-recover v short _ _ is _ empty _ (rw c.in_ok-opened.was at c.recover.ensures) in
    let o = c.in_ok-opened.opened in
    let text = checked-text h.layout o.stores (is_bad o.state c.recover.new.v c.recover.new.st) _ size c.bad_sectors-count.ensures.1 c.bad_sectors-count.ensures.0 in
    (adds-as (text ∙ sym (ap (λ (x : Report). x.text) reported)) c.put_checked.ensures, sym (ap (λ (x : Report). x.image) reported))
