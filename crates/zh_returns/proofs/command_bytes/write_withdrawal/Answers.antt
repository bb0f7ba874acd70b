use Rattle.std.proofs.Common.{◌≡◌, ◌++◌, ◌-◌, ℕ, List, [], ◌∷◌, length, drop, take, set, refl, arith}
use Rattle.std.specs.Int.{bytes_high_first}
use borrow.Rule.Slice.PartMut.{put_mid}
use Rattle.zh_returns.proofs.command_bytes.write_withdrawal.Goals as goal

-- three fields are written one after another
fields_written : (out : List ℕ) (m l n : ℕ) (first second : List ℕ) → length out ≡ 7 →
    first ≡ bytes_high_first 2 m ++ drop 2 out →
    second ≡ bytes_high_first 4 n ++ drop 4 (take (length (set first 2 l) - 3) (drop 3 (set first 2 l))) →
    put_mid 3 (length (set first 2 l) - 3) (set first 2 l) second ≡ bytes_high_first 2 m ++ (l ∷ bytes_high_first 4 n)
fields_written (a ∷ b ∷ c ∷ d ∷ e ∷ f ∷ g ∷ []) m l n first second room e1 e2 = rw (e2, e1) refl
fields_written _ m l n first second room e1 e2 = absurd (omega arith)

pub returns : goal.returns
returns c =
    fields_written c.args.out.now c.args.municipality c.args.list c.args.number c.write_u16.new.buf c.write_u32.new.buf c.requires.room c.write_u16.ensures c.write_u32.ensures
