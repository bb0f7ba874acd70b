-- The lemmas that crates above can use.
pub use Rattle.zh_file.proofs.PlaceLemmas.{after_stay, before_stay, goes_both, goes_itself, meets_before, met_within, of_call_within, stays_untouched, untouched}
