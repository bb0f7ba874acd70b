-- The front of a text, byte by byte.
use Rattle.std.proofs.Common.{◌≡◌, ◌≤◌, ◌<◌, ◌+◌, ◌-◌, ◌==◌, ◌&&◌, ℕ, zero, suc, List, [], ◌∷◌, ◌++◌, length, take, drop}
use Rattle.std.proofs.Common.{get_or, min, Option, Some, None, option_map, Bool, true, false, refl, sym, ap, ◌∙◌, subst, arith}
use Rattle.std.proofs.Common.{append_assoc, add-one, drop-cons}
use Rattle.std.specs.Io.KnownBytes.{Consumes, IsAtEnd, Keeps}
use Rattle.std.proofs.lemmas.Bool.Decides.{nat_tests}
use Rattle.std.proofs.lemmas.List.{take-take, take_more}
use Rattle.csv.specs.Reading.{is_bom, strip_bom}
use Rattle.zh_csv.specs.Front.{point_after, front, left_at}
use Rattle.zh_csv.specs.declared.front_reader.Point.{Point}
use Rattle.zh_csv.specs.declared.front_reader.Point.TheVariants as points

-- no more bytes are read
pub front_none : (most : ℕ) (point : Point) (left : ℕ) (text : List ℕ) → left ≡ 0 → front most point left text ≡ []
unfolding front
front_none most point left [] none = refl
front_none most point zero (byte ∷ text) none = refl
front_none most point (suc left) (byte ∷ text) none = absurd (omega arith)

-- one byte is read
pub front_first : (most : ℕ) (point : Point) (left byte : ℕ) (text : List ℕ) → 0 < left
    → front most point left (byte ∷ text) ≡ byte ∷ front most (point_after point byte) (left_at most (point_after point byte) (left - 1)) text
unfolding front
front_first most point zero byte text some = absurd (omega arith)
front_first most point (suc left) byte text some =
    let less : left ≡ suc left - 1 = omega arith in
    ap (λ (n : ℕ). byte ∷ front most (point_after point byte) (left_at most (point_after point byte) n) text) less

-- states that a byte leads to the same state
same_first : (most left byte : ℕ) (text : List ℕ) (p q : Point) → point_after p byte ≡ point_after q byte → front most p left (byte ∷ text) ≡ front most q left (byte ∷ text)
unfolding front
same_first most zero byte text p q same = refl
same_first most (suc left) byte text p q same = ap (λ (r : Point). byte ∷ front most r (left_at most r left) text) same

-- a text that does not begin with a byte order mark is read as from between two records
third : (most left c : ℕ) (text : List ℕ) → (c == 191) ≡ false → front most points.SecondOfMark left (c ∷ text) ≡ front most points.Plain left (c ∷ text)
third most left c text other = same_first most left c text points.SecondOfMark points.Plain (rw other refl)

second : (most left b c : ℕ) (text : List ℕ) → ((b == 187) && (c == 191)) ≡ false → front most points.FirstOfMark left (b ∷ c ∷ text) ≡ front most points.Plain left (b ∷ c ∷ text)
unfolding front
second most left b c text other = by left (b == 187) refl
  where
    by : (n : ℕ) (is : Bool) → (b == 187) ≡ is → front most points.FirstOfMark n (b ∷ c ∷ text) ≡ front most points.Plain n (b ∷ c ∷ text)
    by n false e = same_first most n b (c ∷ text) points.FirstOfMark points.Plain (rw e refl)
    by zero true e = refl
    by (suc n) true e =
        let b_is : b ≡ 187 = grind (arith, nat_tests) in
        let c_other : (c == 191) ≡ false = rw e at other in
        let here = ap (λ (l : List ℕ). 187 ∷ l) (third most n c text c_other) in
        subst (λ (x : ℕ). front most points.FirstOfMark (suc n) (x ∷ c ∷ text) ≡ front most points.Plain (suc n) (x ∷ c ∷ text)) (sym b_is) here

unmarked : (most left a b c : ℕ) (text : List ℕ) → is_bom a b c ≡ false → front most points.Start left (a ∷ b ∷ c ∷ text) ≡ front most points.Between left (a ∷ b ∷ c ∷ text)
unfolding front
unmarked most left a b c text other = by left (a == 239) refl
  where
    by : (n : ℕ) (is : Bool) → (a == 239) ≡ is → front most points.Start n (a ∷ b ∷ c ∷ text) ≡ front most points.Between n (a ∷ b ∷ c ∷ text)
    by n false e = same_first most n a (b ∷ c ∷ text) points.Start points.Between (rw e refl)
    by zero true e = refl
    by (suc n) true e =
        let a_is : a ≡ 239 = grind (arith, nat_tests) in
        let others : ((b == 187) && (c == 191)) ≡ false = rw e at other in
        let here = ap (λ (l : List ℕ). 239 ∷ l) (second most n b c text others) in
        subst (λ (x : ℕ). front most points.Start (suc n) (x ∷ b ∷ c ∷ text) ≡ front most points.Between (suc n) (x ∷ b ∷ c ∷ text)) (sym a_is) here

-- the same for a text of one byte
strip_one : (most left a : ℕ) → 0 < left → strip_bom (front most points.Start left (a ∷ [])) ≡ front most points.Between left (a ∷ [])
unfolding front strip_bom
strip_one most zero a some = absurd (omega arith)
strip_one most (suc left) a some = refl

left_some : (most left : ℕ) (point : Point) → 0 < most → 0 < left → 0 < left_at most point left
left_some most left points.Between some more = some
left_some most left points.Start some more = more
left_some most left points.FirstOfMark some more = more
left_some most left points.SecondOfMark some more = more
left_some most left points.Field some more = more
left_some most left points.Plain some more = more
left_some most left points.Quoted some more = more
left_some most left points.Closed some more = more

-- the last byte of a text is read if at least one more byte is allowed
front_last : (most : ℕ) (point : Point) (left byte : ℕ) → 0 < left → front most point left (byte ∷ []) ≡ byte ∷ []
unfolding front
front_last most point zero byte some = absurd (omega arith)
front_last most point (suc left) byte some = refl

front_two : (most : ℕ) (point : Point) (left a b : ℕ) → 2 ≤ left → 2 ≤ most → front most point left (a ∷ b ∷ []) ≡ a ∷ b ∷ []
front_two most point left a b some much =
    front_first most point left a (b ∷ []) (omega arith)
    ∙ ap (λ (l : List ℕ). a ∷ l) (front_last most (point_after point a) _ b (left_some most (left - 1) (point_after point a) (omega arith) (omega arith)))

left_much : (most left least : ℕ) (point : Point) → least ≤ most → least ≤ left → least ≤ left_at most point left
left_much most left least points.Between much more = much
left_much most left least points.Start much more = more
left_much most left least points.FirstOfMark much more = more
left_much most left least points.SecondOfMark much more = more
left_much most left least points.Field much more = more
left_much most left least points.Plain much more = more
left_much most left least points.Quoted much more = more
left_much most left least points.Closed much more = more

-- of a text of three bytes or more at least three are read
front_three : (most left a b c : ℕ) (text : List ℕ) (point : Point) → 3 ≤ left → 3 ≤ most
    → (rest : List ℕ) × (front most point left (a ∷ b ∷ c ∷ text) ≡ a ∷ b ∷ c ∷ rest)
front_three most left a b c text point some much =
    let p = point_after point a in
    let m = left_at most p (left - 1) in
    let q = point_after p b in
    let n = left_at most q (m - 1) in
    let two : 2 ≤ m = left_much most (left - 1) 2 p (omega arith) (omega arith) in
    let one : 1 ≤ n = left_much most (m - 1) 1 q (omega arith) (omega arith) in (
      _,
      front_first most point left a (b ∷ c ∷ text) (omega arith) ∙ ap (λ (l : List ℕ). a ∷ l) (front_first most p m b (c ∷ text) (omega arith)
          ∙ ap (λ (l : List ℕ). b ∷ l) (front_first most q n c text (omega arith))),
    )

strip_same : (a b c : ℕ) (text : List ℕ) → is_bom a b c ≡ false → strip_bom (a ∷ b ∷ c ∷ text) ≡ a ∷ b ∷ c ∷ text
unfolding strip_bom
strip_same a b c text other = rw other refl

strip_gone : (a b c : ℕ) (text : List ℕ) → is_bom a b c ≡ true → strip_bom (a ∷ b ∷ c ∷ text) ≡ text
unfolding strip_bom
strip_gone a b c text marked = rw marked refl

-- a byte order mark is read, and what follows it is read as from between two records
marked : (most a b c : ℕ) (text : List ℕ) → 3 ≤ most → is_bom a b c ≡ true
    → front most points.Start most (a ∷ b ∷ c ∷ text) ≡ a ∷ b ∷ c ∷ front most points.Between most text
unfolding front
marked most a b c text much mark = by most much
  where
    a_is : a ≡ 239
    a_is = grind (arith, nat_tests)

    b_is : b ≡ 187
    b_is = grind (arith, nat_tests)

    c_is : c ≡ 191
    c_is = grind (arith, nat_tests)

    at_mark : (n : ℕ) → 3 ≤ n → front most points.Start n (239 ∷ 187 ∷ 191 ∷ text) ≡ 239 ∷ 187 ∷ 191 ∷ front most points.Between most text
    at_mark zero some = absurd (omega arith)
    at_mark (suc zero) some = absurd (omega arith)
    at_mark (suc (suc zero)) some = absurd (omega arith)
    at_mark (suc (suc (suc n))) some = refl

    by : (n : ℕ) → 3 ≤ n → front most points.Start n (a ∷ b ∷ c ∷ text) ≡ a ∷ b ∷ c ∷ front most points.Between most text
    by n some = rw (a_is, b_is, c_is) (at_mark n some)

-- what the CSV reader, which skips a byte order mark, reads of the front
pub strip_front : (most : ℕ) (text : List ℕ) → 3 ≤ most → strip_bom (front most points.Start most text) ≡ front most points.Between most (strip_bom text)
unfolding strip_bom front
strip_front most [] much = refl
strip_front most (a ∷ []) much = strip_one most most a (omega arith)
strip_front most (a ∷ b ∷ []) much =
    ap strip_bom (front_two most points.Start most a b (omega arith) (omega arith)) ∙ sym (front_two most points.Between most a b (omega arith) (omega arith))
strip_front most (a ∷ b ∷ c ∷ text) much = by (is_bom a b c) refl
  where
    by : (is : Bool) → is_bom a b c ≡ is → strip_bom (front most points.Start most (a ∷ b ∷ c ∷ text)) ≡ front most points.Between most (strip_bom (a ∷ b ∷ c ∷ text))
    by true mark =
        ap strip_bom (marked most a b c text much mark) ∙ strip_gone a b c (front most points.Between most text) mark ∙ ap (front most points.Between most) (sym (strip_gone a b c text mark))
    by false other =
        let (rest, is) = front_three most most a b c text points.Between much much in
        ap strip_bom (unmarked most most a b c text other ∙ is) ∙ strip_same a b c rest other ∙ sym is ∙ ap (front most points.Between most) (sym (strip_same a b c text other))

-- the bytes that are passed so far, and one more
pub pass_more : (most : ℕ) (p point : Point) (begun left place : ℕ) (bytes rest : List ℕ) → place < length bytes → 0 < left
    → front most p begun (bytes ++ rest) ≡ take place bytes ++ front most point left (drop place bytes ++ rest)
    → front most p begun (bytes ++ rest)
    ≡ take (place + 1) bytes ++ front most (point_after point (get_or bytes place 0)) (left_at most (point_after point (get_or bytes place 0)) (left - 1)) (drop (place + 1) bytes ++ rest)
pass_more most p point begun left place bytes rest within some before =
    let byte = get_or bytes place 0 in
    let after_it = front most (point_after point byte) (left_at most (point_after point byte) (left - 1)) (drop (place + 1) bytes ++ rest) in
    let dropped : drop place bytes ≡ byte ∷ drop (place + 1) bytes = rw (add-one, drop-cons bytes place 0) in
    let next : front most point left (drop place bytes ++ rest) ≡ byte ∷ after_it =
    ap (λ (l : List ℕ). front most point left (l ++ rest)) dropped ∙ front_first most point left byte (drop (place + 1) bytes ++ rest) some in
    before ∙ ap (λ (l : List ℕ). take place bytes ++ l) next ∙ sym (append_assoc (take place bytes) (byte ∷ []) after_it)
    ∙ ap (λ (l : List ℕ). l ++ after_it) (sym (take_more bytes place 0 within))

-- what a read consumes of the front, given what it consumes of the text
pub consumes_front : (most : ℕ) (p q : Point) (m n count passed : ℕ) (old new : Option (List ℕ)) (buffer : List ℕ) → Consumes old new (take count buffer) → passed ≤ count
    → ((rest : List ℕ) → front most p m (take count buffer ++ rest) ≡ take passed (take count buffer) ++ front most q n rest)
    → Consumes (option_map (front most p m) old) (option_map (front most q n) new) (take passed buffer)
consumes_front most p q m n count passed None new buffer consumes within passes = tt
consumes_front most p q m n count passed (Some xs) None buffer consumes within passes = absurd consumes
consumes_front most p q m n count passed (Some xs) (Some ys) buffer consumes within passes =
    ap (front most p m) consumes ∙ passes ys ∙ ap (λ (l : List ℕ). l ++ front most q n ys) (take-take passed count buffer (omega arith))

-- if the buffer has room, no byte is passed only if there is none
pub none_passed : (n count room passed : ℕ) → n ≡ min count room → (0 < n → 0 < passed) → passed ≡ 0 → 0 < room → count ≡ 0
none_passed zero count room passed is some none more = omega arith
none_passed (suc n) count room passed is some none more = absurd (omega (arith, some (omega arith)))

pub consumes_none : (known : Option (List ℕ)) → Consumes known known []
consumes_none None = tt
consumes_none (Some xs) = refl

pub ends_front : (most : ℕ) (point : Point) (left : ℕ) (known : Option (List ℕ)) → IsAtEnd known → IsAtEnd (option_map (front most point left) known)
unfolding front
ends_front most point left None ended = tt
ends_front most point left (Some xs) ended = rw ended refl

pub none_left : (most : ℕ) (point : Point) (left : ℕ) (known : Option (List ℕ)) → left ≡ 0 → IsAtEnd (option_map (front most point left) known)
none_left most point left None none = tt
none_left most point left (Some xs) none = front_none most point left xs none

pub keeps_front : (most : ℕ) (point : Point) (left : ℕ) (old new : Option (List ℕ)) → Keeps old new → Keeps (option_map (front most point left) old) (option_map (front most point left) new)
keeps_front most point left None new keeps = tt
keeps_front most point left (Some xs) None keeps = keeps
keeps_front most point left (Some xs) (Some ys) keeps = ap (front most point left) keeps
