-- A command that is read from bytes: its kind and its desk, and what is read behind them.
use Rattle.std.proofs.Common.{◌≡◌, ◌≢◌, ◌<◌, ◌≤◌, ◌-◌, ◌^◌, ◌∙◌, ℕ, List, [], ◌∷◌, ◌++◌, length, get_or, take, drop, Option, Some, None, sym, ap, arith}
use Rattle.std.specs.Prelude.{option_map}
use Rattle.std.specs.Int.{w16, to_be_bytes}
use Rattle.std.proofs.lemmas.List.{take_rest}
use Rattle.zh_returns.specs.Decoding.{Decodes}
use Rattle.zh_returns.specs.declared.command.Command.{Command}
use Rattle.zh_returns.specs.declared.command.Command.TheVariants as commands
use Rattle.zh_returns.specs.declared.command.Format.{Format}
use Rattle.zh_returns.specs.declared.command.Format.TheVariants.{One, Two}
use Rattle.zh_returns.specs.declared.row.Row.{Row}
use Rattle.zh_returns.specs.Rows.{row_spelling, IsSpeakableRow, IsBatch}
use Rattle.zh_returns.specs.Spelling.{command_spelling, IsSpeakable, IsWithdrawal}
use Rattle.zh_returns.proofs.RowBytesLemmas.{batch_spelling}
use Rattle.zh_returns.proofs.CommandLemmas.{withdrawal_spelling}

-- the bytes from a place on
abbrev behind : ℕ → List ℕ → List ℕ
behind n bytes = take (length bytes - n) (drop n bytes)

-- a kind and what stands behind it
kind_first : (bytes : List ℕ) (kind : ℕ) → 1 ≤ kind → get_or bytes 0 0 ≡ kind → kind ∷ behind 1 bytes ≡ bytes
kind_first [] kind some is = absurd (omega arith)
kind_first (b ∷ bytes) kind some is = ap (λ (rest : List ℕ). kind ∷ rest) (take_rest (b ∷ bytes) 1) ∙ ap (λ (k : ℕ). k ∷ bytes) (sym is)

-- the same with a desk
desk_second : (bytes : List ℕ) (kind : ℕ) → 2 ≤ length bytes → get_or bytes 0 0 ≡ kind → kind ∷ (get_or bytes 1 0 ∷ behind 2 bytes) ≡ bytes
desk_second (b ∷ desk ∷ bytes) kind long is = ap (λ (rest : List ℕ). kind ∷ (desk ∷ rest)) (take_rest (b ∷ desk ∷ bytes) 2) ∙ ap (λ (k : ℕ). k ∷ (desk ∷ bytes)) (sym is)
desk_second _ kind long is = absurd (omega arith)

behind_kind : (bytes rest : List ℕ) (kind : ℕ) → kind ∷ rest ≡ bytes → rest ≡ behind 1 bytes
behind_kind bytes rest kind same = ap (drop 1) same ∙ sym (take_rest bytes 1)

behind_desk : (bytes rest : List ℕ) (kind desk : ℕ) → kind ∷ (desk ∷ rest) ≡ bytes → rest ≡ behind 2 bytes
behind_desk bytes rest kind desk same = ap (drop 2) same ∙ sym (take_rest bytes 2)

module _ (bytes : List ℕ) where
  no_row : get_or bytes 0 0 ≡ 6 → ((row : Row) → IsSpeakableRow row → row_spelling row ≡ behind 2 bytes → ⊥)
      → (x : Command) → IsSpeakable Two x → command_spelling Two x ≡ bytes → ⊥
  no_row kind none (commands.Return desk row) fits same = none row fits.1 (behind_desk bytes (row_spelling row) 6 desk same)
  no_row kind none x fits same = omega (arith, ap (λ (b : List ℕ). get_or b 0 0) same)

  no_batch : get_or bytes 0 0 ≡ 8 → ((rows : List Row) → IsBatch rows → batch_spelling rows ≡ behind 2 bytes → ⊥)
      → (x : Command) → IsSpeakable Two x → command_spelling Two x ≡ bytes → ⊥
  no_batch kind none (commands.Batch desk rows) fits same = none rows fits.1 (behind_desk bytes (batch_spelling rows) 8 desk same)
  no_batch kind none x fits same = omega (arith, ap (λ (b : List ℕ). get_or b 0 0) same)

  no_withdrawal : get_or bytes 0 0 ≡ 2 → ((m l n : ℕ) → IsWithdrawal m l n → withdrawal_spelling m l n ≡ behind 1 bytes → ⊥)
      → (x : Command) → IsSpeakable One x → command_spelling One x ≡ bytes → ⊥
  no_withdrawal kind none (commands.Withdraw desk m l n) fits same = none m l n fits.1 (behind_kind bytes (withdrawal_spelling m l n) 2 same)
  no_withdrawal kind none x fits same = omega (arith, ap (λ (b : List ℕ). get_or b 0 0) same)

  no_close : (format : Format) → get_or bytes 0 0 ≡ 3 → length (behind 1 bytes) ≢ 2 → (x : Command) → IsSpeakable format x → command_spelling format x ≡ bytes → ⊥
  no_close format kind none (commands.Close m) fits same = none (ap (λ (b : List ℕ). length b) (sym (behind_kind bytes (to_be_bytes w16 m) 3 same)))
  no_close One kind none x fits same = omega (arith, ap (λ (b : List ℕ). get_or b 0 0) same)
  no_close Two kind none x fits same = omega (arith, ap (λ (b : List ℕ). get_or b 0 0) same)

  no_reopen : (format : Format) → get_or bytes 0 0 ≡ 4 → length (behind 1 bytes) ≢ 2 → (x : Command) → IsSpeakable format x → command_spelling format x ≡ bytes → ⊥
  no_reopen format kind none (commands.Reopen m) fits same = none (ap (λ (b : List ℕ). length b) (sym (behind_kind bytes (to_be_bytes w16 m) 4 same)))
  no_reopen One kind none x fits same = omega (arith, ap (λ (b : List ℕ). get_or b 0 0) same)
  no_reopen Two kind none x fits same = omega (arith, ap (λ (b : List ℕ). get_or b 0 0) same)

  -- what is read behind a kind, or a kind and a desk, gives what is read from the bytes
  pub row_decodes : (row : Option Row) → 2 ≤ length bytes → get_or bytes 0 0 ≡ 6 → get_or bytes 1 0 ≤ 8 → Decodes IsSpeakableRow row_spelling (behind 2 bytes) row
      → Decodes (IsSpeakable Two) (command_spelling Two) bytes (option_map (commands.Return (get_or bytes 1 0)) row)
  row_decodes None long kind desk from = record { read = tt; refused = no_row kind from.refused }
  row_decodes (Some row) long kind desk from = record {
    read = ((desk, from.read.0), ap (λ (rest : List ℕ). 6 ∷ (get_or bytes 1 0 ∷ rest)) from.read.1 ∙ desk_second bytes 6 long kind);
    refused = tt;
  }

  pub batch_decodes : (rows : Option (List Row)) → 2 ≤ length bytes → get_or bytes 0 0 ≡ 8 → get_or bytes 1 0 ≤ 8 → Decodes IsBatch batch_spelling (behind 2 bytes) rows
      → Decodes (IsSpeakable Two) (command_spelling Two) bytes (option_map (commands.Batch (get_or bytes 1 0)) rows)
  batch_decodes None long kind desk from = record { read = tt; refused = no_batch kind from.refused }
  batch_decodes (Some rows) long kind desk from = record {
    read = ((desk, from.read.0), ap (λ (rest : List ℕ). 8 ∷ (get_or bytes 1 0 ∷ rest)) from.read.1 ∙ desk_second bytes 8 long kind);
    refused = tt;
  }

  pub withdrawal_decodes : (m l n : ℕ) → get_or bytes 0 0 ≡ 2 → IsWithdrawal m l n → withdrawal_spelling m l n ≡ behind 1 bytes
      → Decodes (IsSpeakable One) (command_spelling One) bytes (Some (commands.Withdraw 0 m l n))
  withdrawal_decodes m l n kind fits same = record {
    read = ((omega arith, fits), ap (λ (rest : List ℕ). 2 ∷ rest) same ∙ kind_first bytes 2 (omega arith) kind);
    refused = tt;
  }

  pub withdrawal_refused : get_or bytes 0 0 ≡ 2 → ((m l n : ℕ) → IsWithdrawal m l n → withdrawal_spelling m l n ≡ behind 1 bytes → ⊥)
      → Decodes (IsSpeakable One) (command_spelling One) bytes None
  withdrawal_refused kind none = record { read = tt; refused = no_withdrawal kind none }

  pub close_decodes : (format : Format) (m : ℕ) → get_or bytes 0 0 ≡ 3 → m < 2 ^ 16 → to_be_bytes w16 m ≡ behind 1 bytes
      → Decodes (IsSpeakable format) (command_spelling format) bytes (Some (commands.Close m))
  close_decodes format m kind fits same = record { read = (fits, ap (λ (rest : List ℕ). 3 ∷ rest) same ∙ kind_first bytes 3 (omega arith) kind); refused = tt }

  pub close_refused : (format : Format) → get_or bytes 0 0 ≡ 3 → length (behind 1 bytes) ≢ 2 → Decodes (IsSpeakable format) (command_spelling format) bytes None
  close_refused format kind none = record { read = tt; refused = no_close format kind none }

  pub reopen_decodes : (format : Format) (m : ℕ) → get_or bytes 0 0 ≡ 4 → m < 2 ^ 16 → to_be_bytes w16 m ≡ behind 1 bytes
      → Decodes (IsSpeakable format) (command_spelling format) bytes (Some (commands.Reopen m))
  reopen_decodes format m kind fits same = record { read = (fits, ap (λ (rest : List ℕ). 4 ∷ rest) same ∙ kind_first bytes 4 (omega arith) kind); refused = tt }

  pub reopen_refused : (format : Format) → get_or bytes 0 0 ≡ 4 → length (behind 1 bytes) ≢ 2 → Decodes (IsSpeakable format) (command_spelling format) bytes None
  reopen_refused format kind none = record { read = tt; refused = no_reopen format kind none }

  no_one : (1 ≤ length bytes → 1 ≤ get_or bytes 0 0 → 6 ≤ get_or bytes 0 0) → (x : Command) → IsSpeakable One x → command_spelling One x ≡ bytes → ⊥
  no_one none (commands.Return desk row) fits same =
      let some = ap (λ (b : List ℕ). length b) same in
      let kind = ap (λ (b : List ℕ). get_or b 0 0) same in
      omega (arith, none (omega arith) (omega arith))
  no_one none (commands.Withdraw desk m l n) fits same =
      let some = ap (λ (b : List ℕ). length b) same in
      let kind = ap (λ (b : List ℕ). get_or b 0 0) same in
      omega (arith, none (omega arith) (omega arith))
  no_one none (commands.Close m) fits same =
      let some = ap (λ (b : List ℕ). length b) same in
      let kind = ap (λ (b : List ℕ). get_or b 0 0) same in
      omega (arith, none (omega arith) (omega arith))
  no_one none (commands.Reopen m) fits same =
      let some = ap (λ (b : List ℕ). length b) same in
      let kind = ap (λ (b : List ℕ). get_or b 0 0) same in
      omega (arith, none (omega arith) (omega arith))
  no_one none (commands.Batch desk rows) fits same =
      let some = ap (λ (b : List ℕ). length b) same in
      let kind = ap (λ (b : List ℕ). get_or b 0 0) same in
      omega (arith, none (omega arith) (omega arith))

  no_two : (1 ≤ length bytes → (get_or bytes 0 0 ≢ 3) × (get_or bytes 0 0 ≢ 4)) → (2 ≤ length bytes → get_or bytes 1 0 ≤ 8 → 6 ≤ get_or bytes 0 0 → 9 ≤ get_or bytes 0 0)
      → (x : Command) → IsSpeakable Two x → command_spelling Two x ≡ bytes → ⊥
  no_two short long (commands.Return d row) fits same =
      let some = ap (λ (b : List ℕ). length b) same in
      let kind = ap (λ (b : List ℕ). get_or b 0 0) same in
      let desk = ap (λ (b : List ℕ). get_or b 1 0) same in
      omega (arith, long (omega arith) (omega (arith, fits.0)) (omega arith))
  no_two short long (commands.Withdraw d m l n) fits same =
      let some = ap (λ (b : List ℕ). length b) same in
      let kind = ap (λ (b : List ℕ). get_or b 0 0) same in
      let desk = ap (λ (b : List ℕ). get_or b 1 0) same in
      omega (arith, long (omega arith) (omega (arith, fits.0)) (omega arith))
  no_two short long (commands.Close m) fits same =
      let some = ap (λ (b : List ℕ). length b) same in
      (short (omega arith)).0 (sym (ap (λ (b : List ℕ). get_or b 0 0) same))
  no_two short long (commands.Reopen m) fits same =
      let some = ap (λ (b : List ℕ). length b) same in
      (short (omega arith)).1 (sym (ap (λ (b : List ℕ). get_or b 0 0) same))
  no_two short long (commands.Batch d rows) fits same =
      let some = ap (λ (b : List ℕ). length b) same in
      let kind = ap (λ (b : List ℕ). get_or b 0 0) same in
      let desk = ap (λ (b : List ℕ). get_or b 1 0) same in
      omega (arith, long (omega arith) (omega (arith, fits.0)) (omega arith))

  -- bytes that begin with no kind, or with no desk behind a kind that has one
  pub one_refused : (1 ≤ length bytes → 1 ≤ get_or bytes 0 0 → 6 ≤ get_or bytes 0 0) → Decodes (IsSpeakable One) (command_spelling One) bytes None
  one_refused none = record { read = tt; refused = no_one none }

  pub two_refused : (1 ≤ length bytes → (get_or bytes 0 0 ≢ 3) × (get_or bytes 0 0 ≢ 4)) → (2 ≤ length bytes → get_or bytes 1 0 ≤ 8 → 6 ≤ get_or bytes 0 0 → 9 ≤ get_or bytes 0 0)
      → Decodes (IsSpeakable Two) (command_spelling Two) bytes None
  two_refused short long = record { read = tt; refused = no_two short long }
