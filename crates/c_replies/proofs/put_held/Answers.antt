use mathlib.Core.Path.{sym, ap, ◌∙◌}
use Rattle.std.proofs.Common.{Result}
use Rattle.model.specs.declared.Held.{Held}
use Rattle.model.specs.declared.Refusal.{Refusal}
use Rattle.model.specs.Refusal.{query_answer}
use Rattle.c_replies.specs.Replies.{held_bytes}
use Rattle.c_volume_state.proofs.VolumeStates.{layout-written}
use Rattle.c_replies.proofs.put_held.Goals as goal

pub returns-in-Ok : goal.returns-in-Ok
returns-in-Ok c = layout-written _ c.args.buffer.now _ c.requires c.put_layout.ensures ∙ sym (ap (λ (x : Result Held Refusal). held_bytes (query_answer x) c.args.buffer.now) c.in-Ok.is)
