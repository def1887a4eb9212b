-- The specification of the volume over its on-disk format, in the order of docs/RULES.md: tags, the journal, the calls, the ledger and demand 3 (R5). Query,
-- NextStore, Advance and Verify are calls that no rule has; Reserved, FirstRule, TagStores, ReadBack and Guarantees state what holds
-- beside demand 3.
pub mod Tag
pub mod Journal
pub mod Store
pub mod Refusal
pub mod State
pub mod Format
pub mod Open
pub mod Query
pub mod Write
pub mod Flush
pub mod StepResult
pub mod JournalStep
pub mod Step
pub mod NextStore
pub mod Advance
pub mod Read
pub mod TagStores
pub mod Keyed
pub mod Verify
pub mod WrongKey
pub mod FirstRule
pub mod Reserved
pub mod ReadBack
pub mod Medium
pub mod Ledger
pub mod World
pub mod Demand3
pub mod Guarantees
