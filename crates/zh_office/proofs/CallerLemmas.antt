-- Lemmas for the crates above.
pub use Rattle.zh_office.proofs.ContinuesLemmas.{risen_since}
pub use Rattle.zh_office.proofs.FilmLemmas.{answered, broken, film_ends, starts}
pub use Rattle.zh_office.proofs.ExchangeLemmas.{Runs-one, disk-append, held_more, log_append, log_more, reported_log}
pub use Rattle.zh_office.proofs.LoggedLemmas.{run_honest, run_is_logged}
pub use Rattle.zh_office.proofs.NoneJudgedLemmas.{nothing_judged}
pub use Rattle.zh_office.proofs.SheetLemmas.{answered_instead}
pub use Rattle.zh_office.proofs.WithoutCommandLemmas.{HoldsWithoutCommand, is_plain, without_command}
