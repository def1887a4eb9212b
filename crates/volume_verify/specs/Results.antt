-- What the test of many tags gives, as the model's verdict.
--
-- tags_verdict fits n k : refusal 7 for the first number below k of which fits does not hold, counted from n; passed where there is none
use Rattle.std.specs.Prelude.{ℕ, ◌+◌, Bool, not, [], ◌∷◌}
use Rattle.octets.specs.Answer.{refuse}
use Rattle.octets.specs.Choice.{pick}
use Rattle.octets.specs.Lists.{all_below, first_below}
use Rattle.model.specs.State.{Verdict, passed}

abbrev pub tags_verdict : (ℕ → Bool) → ℕ → ℕ → Verdict
tags_verdict fits n k = pick (not (all_below k fits)) (refuse 7 ((n + first_below k (λ i. not (fits i))) ∷ [])) passed
