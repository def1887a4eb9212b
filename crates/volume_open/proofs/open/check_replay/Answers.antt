use Prim.Native.Nat.{◌<◌}
use mathlib.Core.Path.{◌≡◌, refl, sym, ap, ◌∙◌}
use native.Mathlib.Omega.{arith}
use Rattle.std.proofs.Common.{unwrap_or}
use Rattle.octets.proofs.Lists.{some-below, none-below}
use Rattle.model.specs.Refusal.{plain_answer}
use Rattle.sound.specs.Rule.{tag_by}
use Rattle.journal.proofs.Walks.{next-due, next-behind, from_first, fewer-from}
use Rattle.layout.proofs.Sizes.{sections-high}
use Rattle.volume_open.proofs.Checks.{verdict_of, sections-end, sections-more, sections-stop}
use Rattle.volume_open.proofs.open.check_replay.Goals as goal

pub next_section-next-requires : goal.next_section-next-requires
next_section-next-requires c = (sections-high c.args.g c.requires.0, omega arith)

pub loop-next-init : goal.loop-next-init
loop-next-init c =
    let g = c.args.g in
    let v = c.args.v.now in
    let o = c.next_section-next.result in
    let first = next-due g v c.requires.0 c.args.ids.now c.requires.2 0 0 o (unwrap_or o g.sections) (omega arith) c.next_section-next.ensures refl in
    (first.2, ap (verdict_of (tag_by c.args.rule g.width) g) (from_first g v c.requires.0 (unwrap_or o g.sections) first.0))

pub section_of-requires : goal.section_of-requires
section_of-requires c =
    let at = some-below c.args.g.sections _ c.in-Some.k (sym c.loop-next.invariant.0 ∙ c.in-Some.is) in
    (c.requires.0, c.requires.1, omega (arith, at))

pub check_section-requires : goal.check_section-requires
check_section-requires c = (c.requires.0, c.section_of.ensures.1)

pub returns-in_err-check_section : goal.returns-in_err-check_section
returns-in_err-check_section c =
    let g = c.args.g in
    let same : c.from_residual.result ≡ c.check_section.result = grind arith in
    let at = some-below g.sections _ c.in-Some.k (sym c.loop-next.invariant.0 ∙ c.in-Some.is) in
    ap plain_answer same
    ∙ sections-stop (tag_by c.args.rule g.width) g c.args.v.now c.requires.0 _ c.in-Some.k (rw at.0 c.loop-next.invariant.1) (omega (arith, at))
    c.section_of.result.now c.section_of.ensures.0 c.check_section.result c.check_section.ensures _ c.in_err-check_section.was

pub bounds-ids-k : goal.bounds-ids-k
bounds-ids-k c =
    let at = some-below c.args.g.sections _ c.in-Some.k (sym c.loop-next.invariant.0 ∙ c.in-Some.is) in
    omega (arith, at, sections-high c.args.g c.requires.0)

pub next_section-next-requires-in-Some : goal.next_section-next-requires-in-Some
next_section-next-requires-in-Some c =
    let at = some-below c.args.g.sections _ c.in-Some.k (sym c.loop-next.invariant.0 ∙ c.in-Some.is) in
    (sections-high c.args.g c.requires.0, omega (arith, at))

pub loop-next-smaller : goal.loop-next-smaller
loop-next-smaller c =
    let g = c.args.g in
    let v = c.args.v.now in
    let k = c.in-Some.k in
    let o = c.next_section-next-in-Some.result in
    let at = some-below g.sections _ k (sym c.loop-next.invariant.0 ∙ c.in-Some.is) in
    let l : k < g.sections = omega (arith, at) in
    let next = next-behind g v c.requires.0 c.args.ids.now c.requires.2 k o (unwrap_or o g.sections) l c.next_section-next-in-Some.ensures refl in
    rw (sym at.0) (omega (arith, fewer-from g v c.requires.0 k (unwrap_or o g.sections) l next.0))

pub loop-next-preserved : goal.loop-next-preserved
loop-next-preserved c =
    let g = c.args.g in
    let v = c.args.v.now in
    let k = c.in-Some.k in
    let o = c.next_section-next-in-Some.result in
    let at = some-below g.sections _ k (sym c.loop-next.invariant.0 ∙ c.in-Some.is) in
    let l : k < g.sections = omega (arith, at) in
    let next = next-behind g v c.requires.0 c.args.ids.now c.requires.2 k o (unwrap_or o g.sections) l c.next_section-next-in-Some.ensures refl in (
      next.2,
      sections-more (tag_by c.args.rule g.width) g v c.requires.0 _ k (rw at.0 c.loop-next.invariant.1) l
          c.section_of.result.now c.section_of.ensures.0 c.check_section.result c.check_section.ensures (unwrap_or o g.sections) next.0 c.in_ok-check_section.was,
    )

pub returns : goal.returns
returns c =
    sections-end (tag_by c.args.rule c.args.g.width) c.args.g c.args.v.now c.requires.0 _ _ c.loop-next.invariant.1
    (none-below c.args.g.sections _ (sym c.loop-next.invariant.0 ∙ c.in_default.is))
