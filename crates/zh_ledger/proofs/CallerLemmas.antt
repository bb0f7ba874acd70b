-- The lemmas that crates above may use.
pub use Rattle.zh_ledger.proofs.SubmissionLemmas.{has_none, none_logged, log_none, none_submitted, one_submitted, submits_honest, submits_logged, submission_logged}
pub use Rattle.zh_ledger.proofs.StretchLemmas.{left_by, only_image}
pub use Rattle.zh_ledger.proofs.NightLemmas.{SubmitsOneOrNone, Serves, night_law}
pub use Rattle.zh_ledger.proofs.OpenedLemmas.{err_of}
pub use Rattle.zh_ledger.proofs.ReopeningLemmas.{found_count, knows_images}
pub use Rattle.zh_ledger.proofs.MigrationLemmas.{Alters, leaves_altered, migrated_holds, read_now}
pub use Rattle.zh_ledger.proofs.StandsLemmas.{stands_alike, one_count}
pub use Rattle.zh_ledger.proofs.RoomLemmas.{ready_already, ready_switched}
pub use Rattle.zh_ledger.proofs.OutsideLemmas.{outside_untouched}
