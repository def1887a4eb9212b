-- Rule 1 comes before every other: specs/FirstRule.
use Rattle.model.specs.Tag.{Tags}
use Rattle.model.specs.Write.{write_of}
use Rattle.model.specs.Flush.{flush_of}
use Rattle.model.specs.Step.{step_of}
use Rattle.model.specs.Read.{read_of}
use Rattle.model.specs.FirstRule.{MalformedFirst}

pub malformed-first : (tags : Tags) → MalformedFirst tags
unfolding write_of flush_of step_of read_of
malformed-first tags = record { write = λ s st n bytes e. rw e; flush = λ s e. rw e; step = λ s v st e. rw e; read = λ s v st n loan e. rw e }
