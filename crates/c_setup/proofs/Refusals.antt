-- A call that is refused leaves every buffer but the answer's as it was. The calls with a key rest on format-by and open_by_lem too.
use Prim.Native.Nat.{ℕ}
use mathlib.Core.List.{List}
use mathlib.Core.Path.{refl}
use Rattle.octets.specs.Answer.{taken, refused}
use Rattle.octets.specs.Choice.{first_met}
use Rattle.on_disk.specs.declared.Layout.{Layout}
use Rattle.model.specs.State.{Verdict, passed}
use Rattle.model.specs.Tag.{Tag, tag_of}
use Rattle.model.specs.Format.{format_rows, format_by, format_of}
use Rattle.on_disk.specs.Superblock.{superblock_at, layout_in}
use Rattle.model.specs.Journal.{replay}
use Rattle.model.specs.Open.{superblock_rows, open_rows, entries_verdict, open_by, open_with}
use Rattle.model.specs.Query.{query_by, query_with}
use Rattle.c_numbers.specs.Called.{Keeps}
use Rattle.c_numbers.proofs.Calls.{called-keeps}
use Rattle.c_setup.specs.Setup.{RefusedSetupKeeps, format_leaves, query_leaves, open_leaves, format_call, query_call, open_call}

pub format-by : (tag : Tag) (g : Layout) (v : List ℕ) (x : Verdict) → Keeps (format_leaves (format_by tag g v x)) v
format-by tag g v (taken y) h = absurd (h refl)
format-by tag g v (refused r) h = refl

query-by : (g : Layout) (l : List ℕ) (x : Verdict) → Keeps (query_leaves (query_by g x) l) l
query-by g l (taken y) h = absurd (h refl)
query-by g l (refused r) h = refl

pub open_by_lem : (g : Layout) (v st s : List ℕ) (x : Verdict) → Keeps (open_leaves (open_by g v st x) s) (record { staging = st; state = s })
open_by_lem g v st s (taken y) h = absurd (h refl)
open_by_lem g v st s (refused r) h = refl

format-refused : (v : List ℕ) (g : Layout) (a : List ℕ) → Keeps (format_call v g a) v
unfolding format_call format_of
format-refused v g a = called-keeps a _ v _ (λ e. format-by _ g v (first_met (format_rows g v) passed))

query-refused : (v : List ℕ) (r : ℕ) (l a : List ℕ) → Keeps (query_call v r l a) l
unfolding query_call query_with
query-refused v r l a =
    let g : Layout = layout_in r (superblock_at r v) in
    called-keeps a _ l _ (λ e. query-by g l (first_met (superblock_rows g r v) passed))

open-refused : (v st : List ℕ) (r : ℕ) (s a : List ℕ) → Keeps (open_call v st r s a) (record { staging = st; state = s })
unfolding open_call open_with
open-refused v st r s a =
    let g : Layout = layout_in r (superblock_at r v) in
    called-keeps a _ _ _ (λ e. open_by_lem g v st s (first_met (open_rows g r v st) (entries_verdict (tag_of g.width) g (replay g v))))

pub refused-setup-keeps : RefusedSetupKeeps
refused-setup-keeps = record { format = format-refused; query = query-refused; opens = open-refused }
