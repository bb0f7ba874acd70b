use Rattle.std.proofs.Common.{◌≡◌, ◌++◌, ◌-◌, ℕ, List, [], ◌∷◌, length, drop, take, set, refl, arith}
use Rattle.std.specs.Int.{bytes_high_first}
use borrow.Rule.Slice.PartMut.{put_mid}
use Rattle.zh_returns.proofs.row.write_row.Goals as goal

-- four fields are written one after another
fields_written : (out : List ℕ) (m l n v : ℕ) (first second third : List ℕ) → length out ≡ 11 →
    first ≡ bytes_high_first 2 m ++ drop 2 out →
    second ≡ bytes_high_first 4 n ++ drop 4 (take (length (set first 2 l) - 3) (drop 3 (set first 2 l))) →
    third ≡ bytes_high_first 4 v ++ drop 4 (take (length (put_mid 3 (length (set first 2 l) - 3) (set first 2 l) second) - 7)
    (drop 7 (put_mid 3 (length (set first 2 l) - 3) (set first 2 l) second))) →
    put_mid 7 (length (put_mid 3 (length (set first 2 l) - 3) (set first 2 l) second) - 7) (put_mid 3 (length (set first 2 l) - 3) (set first 2 l) second) third
    ≡ bytes_high_first 2 m ++ (l ∷ (bytes_high_first 4 n ++ bytes_high_first 4 v))
fields_written (a ∷ b ∷ c ∷ d ∷ e ∷ f ∷ g ∷ h ∷ i ∷ j ∷ k ∷ []) m l n v first second third room e1 e2 e3 = rw (e3, e2, e1) refl
fields_written _ m l n v first second third room e1 e2 e3 = absurd (omega arith)

pub returns : goal.returns
returns c =
    fields_written c.args.out.now c.args.row.municipality c.args.row.list c.args.row.number c.args.row.votes c.write_u16.new.buf c.write_u32.new.buf c.write_u32-2.new.buf
    c.requires.room c.write_u16.ensures c.write_u32.ensures c.write_u32-2.ensures
