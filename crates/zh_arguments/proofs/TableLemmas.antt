-- The table that the arguments name.
use Rattle.std.proofs.Common.{◌≡◌, ◌≢◌, ◌∙◌, ◌<◌, ◌^◌, ℕ, List, Option, Some, None, Bool, true, false, ◌&&◌, if◌then◌else◌, MatchOption, refl, ap, arith, nat_lt, decimal, codes}
use Rattle.std.specs.Str.{bytes_eq}
use Rattle.std.specs.Str.Parse.{digits_value}
use Rattle.std.proofs.lemmas.Bool.{ltb-true, lt-ltb}
use Rattle.std.proofs.lemmas.Fmt.{decimal_is_IsNumeral}
use Rattle.std.proofs.lemmas.Slice.Eq.{bytes_eq-Decides}
use Rattle.std.specs.Prelude.{option_and_then}
use Rattle.clap.specs.Words.{Row, Text, first_of}
use Rattle.zh_arguments.specs.Table.{number_in, part_of, path_in, table_in, table_named}
use Rattle.zh_arguments.proofs.ArgumentLemmas.{equal}
use Rattle.zh_tables.specs.declared.tables.Part.{Part}
use Rattle.zh_tables.specs.declared.tables.Table.{Table}

unless_both : (a b : Bool) (n : ℕ) → (a ≡ true → b ≡ true → ⊥) → ◌≡◌ {A = Option ℕ} None (if a && b then Some n else None)
unless_both true true n h = absurd (h refl refl)
unless_both true false n h = refl
unless_both false b n h = refl

-- a number that was read is the number of the numeral
pub number_read : (text : Text) (r : Option ℕ) → MatchOption r ((n : ℕ) → n < 2 ^ 32 → text ≢ decimal n) (λ n. (n < 2 ^ 32) × (text ≡ decimal n)) → r ≡ number_in text
number_read text None none =
    unless_both (nat_lt (digits_value 10 text) (2 ^ 32)) (bytes_eq text (decimal (digits_value 10 text))) (digits_value 10 text)
    (λ small same. none (digits_value 10 text) (ltb-true (digits_value 10 text) (2 ^ 32) small) ((bytes_eq-Decides text (decimal (digits_value 10 text))).0 same))
number_read text (Some n) (small, is) =
    let value : digits_value 10 text ≡ n = ap (digits_value 10) is ∙ (decimal_is_IsNumeral n (omega arith)).1 in
    rw (value, lt-ltb n (2 ^ 32) small, equal text (decimal n) is) refl

-- the given part
part_read : (rows : List Row) (m d : Option Text) → m ≡ first_of (codes "municipality") rows → d ≡ first_of (codes "constituency") rows
    → part_of m d ≡ part_of (first_of (codes "municipality") rows) (first_of (codes "constituency") rows)
part_read rows m d m_is d_is = λ i. part_of (m_is i) (d_is i)

-- the table with the given name and part
pub table_read : (rows : List Row) (m d : Option Text) (name : Text) (part : Part) (result : Option Table) → m
    ≡ first_of (codes "municipality") rows → d ≡ first_of (codes "constituency") rows → name ≡ path_in (codes "of") rows → Some part
    ≡ part_of m d → result ≡ table_named name part → result ≡ table_in rows
table_read rows m d name part result m_is d_is name_is part_is is =
    is ∙ ap (λ (n : Text). table_named n part) name_is ∙ ap (option_and_then (table_named (path_in (codes "of") rows))) (part_is ∙ part_read rows m d m_is d_is)

-- without a part there is no table
pub no_part : (rows : List Row) (m d : Option Text) (result : Option Table) → m ≡ first_of (codes "municipality") rows → d
    ≡ first_of (codes "constituency") rows → None ≡ part_of m d → result ≡ None → result ≡ table_in rows
no_part rows m d result m_is d_is part_is is = is ∙ ap (option_and_then (table_named (path_in (codes "of") rows))) (part_is ∙ part_read rows m d m_is d_is)
