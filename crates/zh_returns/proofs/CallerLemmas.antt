-- The lemmas that crates above may use.
pub use Rattle.zh_returns.proofs.AcceptedLemmas.{fits, speakable}
pub use Rattle.zh_returns.proofs.BatchLemmas.{held_still, next_row, passed_row, upto, with_row}
pub use Rattle.zh_returns.proofs.BatchRowLemmas.{batch_more, fit_within, taken_by}
pub use Rattle.zh_returns.proofs.BlockLemmas.{HasWidth, in_block, length-blocks}
pub use Rattle.zh_returns.proofs.CommandLemmas.{command_once, short, speakable_fit}
pub use Rattle.zh_returns.proofs.JudgementLemmas.{IsHeld, passes, row_held, row_unrefused, rows_may_stand}
pub use Rattle.zh_returns.proofs.KeyLemmas.{exact_keys, fresh_from_distinct, key_test, keys_alike, keys_equal, keys_total, same_key}
pub use Rattle.zh_returns.proofs.LimitsLemmas.{IsTally-empty, IsTally-insert, entry_said}
pub use Rattle.zh_returns.proofs.NumbersLemmas.{get_or-numbers, length-numbers}
pub use Rattle.zh_returns.proofs.OnePayloadLemmas.{format_at, format_said, one_format, said_in_two, tally_once}
pub use Rattle.zh_returns.proofs.OriginLemmas.{no_desk_said, origin_named}
pub use Rattle.zh_returns.proofs.VerdictLemmas.{rows_more}
