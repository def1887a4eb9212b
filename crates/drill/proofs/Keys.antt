-- A key that the calls take, or none: each call is that of the tags in use.
use Prim.Native.Nat.{ℕ}
use mathlib.Core.Bool.{true}
use mathlib.Core.List.{List}
use mathlib.Core.Path.{◌≡◌, refl}
use Rattle.std.specs.Prelude.{Option, Some, None}
use Rattle.model.specs.Open.{open_of}
use Rattle.model.specs.Write.{write_of}
use Rattle.model.specs.declared.State.{State}
use Rattle.model.proofs.Keyed.{keyed-calls}
use Rattle.drill.specs.Played.{tags_for, key_fits, open_under, write_under}

pub opening : (key : Option (List ℕ)) → key_fits key ≡ true → (r : ℕ) (v st : List ℕ) → open_under key r v st ≡ open_of (tags_for key) r v st
opening None e r v st = refl
opening (Some key) e r v st = (keyed-calls.taken key e).opening r v st

pub writing : (key : Option (List ℕ)) → key_fits key ≡ true
    → (s : State) (st : List ℕ) (n : ℕ) (b : List ℕ) → write_under key s st n b ≡ write_of (tags_for key) s st n b
writing None e s st n b = refl
writing (Some key) e s st n b = (keyed-calls.taken key e).write s st n b
