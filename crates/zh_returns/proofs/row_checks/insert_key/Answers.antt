use Rattle.std.proofs.Common.{◌≡◌, ◌≢◌, ◌∙◌, ◌<◌, ◌≤◌, ◌+◌, ◌-◌, ◌*◌, ◌==◌, ◌&&◌, ◌||◌, ℕ, Bool, List, get_or, nat_lt, refl, ap, sym, inl, inr, arith, rules, le-ltb, lt-ltb}
use Rattle.std.proofs.lemmas.Bool.{cases_eq, cases_lt, eq-eqb, ne_eqb}
use Rattle.std.proofs.lemmas.List.{get_or-set_other, get_or-set_same}
use Rattle.zh_returns.specs.KeySet.{has_mark, is_marked}
use Rattle.zh_returns.proofs.row_checks.insert_key.Goals.{then-blocks-municipality-eq0, else-blocks-municipality-eq0}
use Rattle.zh_returns.proofs.row_checks.insert_key.Goals as goal

-- the keys after a place of the block of a municipality is marked
module _ (blocks new marks after : List ℕ) (m0 l0 : ℕ) (small : l0 < 256) (own : 1 ≤ get_or new m0 0)
    (marked : (p : ℕ) → is_marked after p ≡ (p == (get_or new m0 0 - 1) * 256 + l0 || is_marked marks p)) where
  key_here : (l : ℕ) → l < 256 → is_marked marks ((get_or new m0 0 - 1) * 256 + l) ≡ has_mark blocks marks m0 l →
      has_mark new after m0 l ≡ (l == l0 || has_mark blocks marks m0 l)
  key_here l within here =
      let place = (get_or new m0 0 - 1) * 256 + l in
      let same : (place == (get_or new m0 0 - 1) * 256 + l0) ≡ (l == l0) = elim (cases_eq l l0) [
        | inl is ↦ eq-eqb place ((get_or new m0 0 - 1) * 256 + l0) (omega arith) ∙ sym (eq-eqb l l0 is)
        | inr other ↦ ne_eqb place ((get_or new m0 0 - 1) * 256 + l0) (λ is. other (omega arith)) ∙ sym (ne_eqb l l0 other)
      ] in
      ap (λ (b : Bool). b && is_marked after place) (lt-ltb 0 (get_or new m0 0) own)
      ∙ (marked place ∙ (ap (λ (b : Bool). b || is_marked marks place) same ∙ ap (λ (b : Bool). l == l0 || b) here))

  key_there : (m l : ℕ) → l < 256 → get_or new m 0 ≡ get_or blocks m 0 → get_or blocks m 0 ≢ get_or new m0 0 →
      has_mark new after m l ≡ has_mark blocks marks m l
  key_there m l within kept apart =
      let block = get_or blocks m 0 in
      let place = (block - 1) * 256 + l in
      ap (λ (b : ℕ). nat_lt 0 b && is_marked after ((b - 1) * 256 + l)) kept
      ∙ elim (cases_lt 0 block) as (λ _. (nat_lt 0 block && is_marked after place) ≡ (nat_lt 0 block && is_marked marks place)) [
        | inl some ↦
            ap (λ (b : Bool). nat_lt 0 block && b)
            (marked place ∙ ap (λ (b : Bool). b || is_marked marks place) (ne_eqb place ((get_or new m0 0 - 1) * 256 + l0) (λ is. apart (omega arith))))
        | inr none ↦
            ap (λ (b : Bool). b && is_marked after place) (le-ltb 0 block none)
            ∙ sym (ap (λ (b : Bool). b && is_marked marks place) (le-ltb 0 block none))
      ]

  keys_marked : ((m : ℕ) → m ≢ m0 → get_or new m 0 ≡ get_or blocks m 0) → ((m : ℕ) → m ≢ m0 → get_or blocks m 0 ≢ get_or new m0 0) →
      ((l : ℕ) → l < 256 → is_marked marks ((get_or new m0 0 - 1) * 256 + l) ≡ has_mark blocks marks m0 l) →
      (m l : ℕ) → l < 256 → has_mark new after m l ≡ ((m == m0 && l == l0) || has_mark blocks marks m l)
  keys_marked kept apart here m l within = elim (cases_eq m m0) as (λ _. has_mark new after m l ≡ ((m == m0 && l == l0) || has_mark blocks marks m l)) [
    | inl same ↦
        ap (λ (n : ℕ). has_mark new after n l) same
        ∙ (key_here l within (here l within)
        ∙ sym (ap (λ (n : ℕ). (n == m0 && l == l0) || has_mark blocks marks n l) same
        ∙ ap (λ (b : Bool). (b && l == l0) || has_mark blocks marks m0 l) (eq-eqb m0 m0 refl)))
    | inr other ↦
        key_there m l within (kept m other) (apart m other)
        ∙ sym (ap (λ (b : Bool). (b && l == l0) || has_mark blocks marks m l) (ne_eqb m m0 other))
  ]

pub returns-clause-fresh : goal.returns-clause-fresh
returns-clause-fresh c = search rules

pub returns-clause-keys : goal.returns-clause-keys
returns-clause-keys c =
    let blocks = c.args.blocks.now in
    let new = c.if-blocks-municipality-eq0.blocks in
    let marks = c.args.marks.now in
    let m0 = c.args.municipality in
    elim c.if-blocks-municipality-eq0.branch [
      | then-blocks-municipality-eq0 w ↦
          let block : get_or new m0 0 ≡ c.args.count + 1
          = ap (λ (xs : List ℕ). get_or xs m0 0) w.blocks-is
          ∙ get_or-set_same blocks m0 (c.args.count + 1) 0 (omega (arith, c.requires.blocks, c.requires.municipality)) in
          keys_marked blocks new marks c.mark.new.marks m0 c.args.list c.requires.list (omega (arith, block)) c.mark.ensures.marked
          (λ m other. ap (λ (xs : List ℕ). get_or xs m 0) w.blocks-is ∙ get_or-set_other blocks m0 m (c.args.count + 1) 0 other)
          (λ m other is. omega (arith, block, is, c.requires.set.most m))
          (λ l within. c.requires.set.clear ((get_or new m0 0 - 1) * 256 + l) (omega (arith, block))
          ∙ sym (ap (λ (b : ℕ). nat_lt 0 b && is_marked marks ((b - 1) * 256 + l)) w.if-blocks-municipality-eq0.true))
      | else-blocks-municipality-eq0 w ↦
          let block : get_or new m0 0 ≡ get_or blocks m0 0 = ap (λ (xs : List ℕ). get_or xs m0 0) w.blocks-is in
          let some : 0 < get_or blocks m0 0 = omega (arith, w.if-blocks-municipality-eq0.false) in
          keys_marked blocks new marks c.mark.new.marks m0 c.args.list c.requires.list (omega (arith, block, some)) c.mark.ensures.marked
          (λ m other. ap (λ (xs : List ℕ). get_or xs m 0) w.blocks-is)
          (λ m other is. other (c.requires.set.own m m0 (omega (arith, block, some, is)) (is ∙ block)))
          (λ l within. ap (λ (b : ℕ). is_marked marks ((b - 1) * 256 + l)) block
          ∙ sym (ap (λ (b : Bool). b && is_marked marks ((get_or blocks m0 0 - 1) * 256 + l)) (lt-ltb 0 (get_or blocks m0 0) some)))
    ]

pub returns-clause-set : goal.returns-clause-set
returns-clause-set c = search rules
