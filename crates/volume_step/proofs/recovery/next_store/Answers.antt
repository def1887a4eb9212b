use Prim.Native.Nat.{ℕ}
use mathlib.Core.List.{List}
use mathlib.Core.Path.{refl, ap, ◌∙◌}
use native.Mathlib.Omega.{arith}
use Rattle.on_disk.specs.Section.{entry_of}
use Rattle.model.specs.Store.{home_count, home_store}
use Rattle.layout.proofs.Sizes.{width-high}
use Rattle.journal.proofs.Recovery.{steps_high}
use Rattle.model.proofs.States.{state-layout, staged-in, volume-room, volume-replay}
use Rattle.volume_step.proofs.Steps.{journal-range, place-told}
use Rattle.volume_step.proofs.recovery.next_store.Goals as goal

pub section_of-section-requires : goal.section_of-section-requires
section_of-section-requires c =
    (state-layout c.args.s.now c.requires.0.sound, volume-room c.args.s.now c.args.v.now c.requires.0.fits, c.requires.0.section)

pub entry_sector-sector-requires : goal.entry_sector-sector-requires
entry_sector-sector-requires c =
    (width-high c.args.s.now.layout (state-layout c.args.s.now c.requires.0.sound), c.requires.0.named.entry, c.section_of-section.ensures.1)

pub returns-then-g-sector : goal.returns-then-g-sector
returns-then-g-sector c =
    let args = c.args in
    let pre = c.requires.0 in
    let s = args.s.now in
    λ st staging. journal-range s args.v.now st args.out.now pre.sound pre.fits (staged-in s st _ pre.phase staging refl) args.k pre.phase args.x pre.named _
    (c.entry_sector-sector.ensures ∙ ap (λ (y : List ℕ). (entry_of s.layout.width y args.x.entry).sector) c.section_of-section.ensures.0) c.if-g-sector.true

pub home_store-at-requires : goal.home_store-at-requires
home_store-at-requires c =
    let s = c.args.s.now in
    let x = c.args.x in
    let section = c.section_of-section.ensures in
    let there = ap (λ (y : List ℕ). home_count s.layout (entry_of s.layout.width y x.entry)) section.0 in (
      record {
        layout = state-layout s c.requires.0.sound;
        long = section.1;
        entry = c.requires.0.named.entry;
        is = c.entry_sector-sector.ensures;
        low = c.if-g-sector.false;
        store = omega (arith, c.requires.0.named.store, there);
      },
      volume-room s c.args.v.now c.requires.0.fits,
      c.requires.1,
    )

pub overflow_add-k : goal.overflow_add-k
overflow_add-k c =
    let s = c.args.s.now in
    let v = c.args.v.now in
    record { fits = omega (arith, volume-replay s v c.requires.0.fits c.args.k c.requires.0.phase, steps_high s.layout v (state-layout s c.requires.0.sound)) }

pub returns : goal.returns
returns c =
    let args = c.args in
    let pre = c.requires.0 in
    let s = args.s.now in
    let x = args.x in
    let section = c.section_of-section.ensures.0 in
    λ st staging. place-told s args.v.now st args.out.now pre.sound pre.fits (staged-in s st _ pre.phase staging refl) args.k pre.phase x pre.named _
    (c.entry_sector-sector.ensures ∙ ap (λ (y : List ℕ). (entry_of s.layout.width y x.entry).sector) section) c.if-g-sector.false
    _ _ (c.home_store-at.ensures ∙ ap (λ (y : List ℕ). home_store s.layout args.v.now (entry_of s.layout.width y x.entry) x.store) section)
    (c.replayed.result, c.replayed.new.s) args.more pre.goes_on c.replayed.ensures
