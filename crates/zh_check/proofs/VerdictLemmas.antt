-- The sheet that is recomputed from a text, and the right sheet.
use Rattle.std.proofs.Common.{◌≡◌, ◌≢◌, ℕ, ◌-◌, ◌^◌, ◌<◌, ◌≤◌, List, [], ◌∷◌, map, Option, Some, None, sym, ap, ◌∙◌, subst, arith}
use Rattle.std.specs.Prelude.{IfSome}
use Rattle.zh_districts.specs.Canton.{Canton}
use Rattle.zh_matrices.specs.SeatMatrix.{SeatMatrix}
use Rattle.zh_sheet.specs.Distribution.{Distribution}
use Rattle.zh_sheet.specs.Given.{IsGiven, IsPublished}
use Rattle.zh_sheet_text.specs.Layout.{sheet_lines}
use Rattle.zh_totals.specs.Totals.{VoteTotals}
use Rattle.zh_sheet_text.specs.declared.line.Head.{Head}
use Rattle.zh_sheet_text.specs.declared.line.SheetPart.TheVariants.{Accepted}
use Rattle.zh_check.specs.Lines.{number_of_word}
use Rattle.zh_check.specs.Reading.{head_read, is_like, latest, lists_read, totals_read, words_at}
use Rattle.zh_check.specs.Form.{IsFormed, IsOffForm}
use Rattle.zh_check.specs.Others.{FindsOtherVotes, HasHeldVotes, HasOtherVotes}
use Rattle.zh_check.specs.declared.checked.OtherVotes.{OtherVotes}
use Rattle.zh_check.specs.Differences.{DiffersAt}
use Rattle.zh_check.specs.Verdicts.{DiffersFromSheet, FindsSheet, FollowsNone, IsReasonOf, IsRecomputed, IsRight, IsRightExactly, IsWhyNone, PartsHold, right_text}
use Rattle.zh_check.specs.declared.checked.SheetVerdict.{SheetVerdict}
use Rattle.zh_check.specs.declared.checked.SheetVerdict.TheVariants as verdicts
use Rattle.zh_check.specs.declared.checked.WrongLine.{WrongLine}
use Rattle.zh_check.specs.declared.checked.RightSheet.{RightSheet}
use Rattle.zh_check.proofs.SheetLemmas.{head_is, lower_is, sheet_formed, votes_are}

-- the seats do not follow
pub no_sheet : (canton : Canton) (text : List ℕ) (totals : VoteTotals) (lists : SeatMatrix) → totals ≡ totals_read canton text → lists ≡ lists_read canton text →
    IsGiven totals lists None → FindsSheet canton text None
no_sheet canton text totals lists votes seats given = record {
  some = tt;
  every = λ c is. let e : None ≡ Some c.sheet = given.every c.sheet is.meets (is.votes ∙ sym votes) (is.lists ∙ sym seats) in absurd (cc);
}

-- the sheet follows
pub one_sheet : (canton : Canton) (text : List ℕ) (totals : VoteTotals) (lists : SeatMatrix) (x : Distribution) (head : Head) →
    totals ≡ totals_read canton text → lists ≡ lists_read canton text → IsGiven totals lists (Some x) →
    (1 ≤ head.desk) × (head.desk ≤ 8) → head ≡ head_read canton text → FindsSheet canton text (Some (record { sheet = x; head = head }))
one_sheet canton text totals lists x head votes seats given desk same = record {
  some = record {
    votes = given.votes ∙ votes;
    lists = given.seats ∙ seats;
    meets = given.meets;
    desk = desk;
    head = same;
  };
  every = λ c is.
      let e : Some x ≡ Some c.sheet = given.every c.sheet is.meets (is.votes ∙ sym votes) (is.lists ∙ sym seats) in
      let sheet : x ≡ c.sheet = cc in
      let heads : head ≡ c.head = same ∙ sym is.head in
      λ i. Some (record { sheet = sheet i; head = heads i });
}

-- a number that is read is below 2 ^ 64
latest_most : (before : ℕ) (words : List (List ℕ)) → before ≤ 2 ^ 64 - 1 → latest before (map number_of_word words) ≤ 2 ^ 64 - 1
latest_most before [] most = most
latest_most before (word ∷ words) most = latest_most (number_of_word word) words (omega arith)

accepted_most : (canton : Canton) (text : List ℕ) → (head_read canton text).accepted ≤ 2 ^ 64 - 1
accepted_most canton text = latest_most 0 (words_at (is_like Accepted) (sheet_lines canton) text) (omega arith)

-- a sheet can be recomputed from its own text
own_text : (c : RightSheet) → (1 ≤ c.head.desk) × (c.head.desk ≤ 8) → c.head.accepted ≤ 2 ^ 64 - 1 → IsPublished c.sheet →
    IsRecomputed c.sheet.totals.canton (right_text c) c
own_text c desk accepted published =
    let is = published.distribution in
    let small : c.head.accepted < 2 ^ 64 = omega (arith, accepted) in
    record {
      votes = ap (λ v. record { canton = c.sheet.totals.canton; votes = v }) (sym (votes_are c.sheet c.head is desk.0 desk.1 small published));
      lists = lower_is c.sheet c.head is desk.0 desk.1 small published;
      meets = published;
      desk = desk;
      head = sym (head_is c.sheet c.head is desk.0 desk.1 small);
    }

pub right_recomputed : (canton : Canton) (held : Option VoteTotals) (bytes : List ℕ) (c : RightSheet) → IsRight canton held bytes c → IsRecomputed canton bytes c
right_recomputed canton held bytes c is =
    subst (λ text. IsRecomputed canton text c) (sym is.text)
    (subst (λ k. IsRecomputed k (right_text c) c) is.same_setup (own_text c is.desk is.accepted is.meets))

-- a right sheet is the one that is found
pub only_found : (canton : Canton) (held : Option VoteTotals) (bytes : List ℕ) (found : Option RightSheet) → FindsSheet canton bytes found →
    (c : RightSheet) → IsRight canton held bytes c → found ≡ Some c
only_found canton held bytes found is c right = is.every c (right_recomputed canton held bytes c right)

-- no sheet follows
none_right : (canton : Canton) (held : Option VoteTotals) (bytes : List ℕ) → FindsSheet canton bytes None → (c : RightSheet) → ¬ IsRight canton held bytes c
none_right canton held bytes found c right = let e : None ≡ Some c = only_found canton held bytes None found c right in absurd (cc)

none_recomputed : (canton : Canton) (bytes : List ℕ) → FindsSheet canton bytes None → FollowsNone canton bytes
none_recomputed canton bytes found c is = let e : None ≡ Some c = found.every c is in absurd (cc)

pub why_exactly : (canton : Canton) (held : Option VoteTotals) (bytes : List ℕ) (verdict : SheetVerdict) → FindsSheet canton bytes None →
    IsWhyNone canton bytes verdict → IsRightExactly canton held bytes verdict
why_exactly canton held bytes (verdicts.Right c) found why = absurd why
why_exactly canton held bytes verdict found why = none_right canton held bytes found

pub why_reason : (canton : Canton) (held : Option VoteTotals) (bytes : List ℕ) (verdict : SheetVerdict) → PartsHold canton held bytes →
    FindsSheet canton bytes None → IsWhyNone canton bytes verdict → IsReasonOf canton held bytes verdict
why_reason canton held bytes (verdicts.Right c) parts found why = absurd why
why_reason canton held bytes (verdicts.OffForm wrong) parts found why = absurd why
why_reason canton held bytes (verdicts.OtherVotes other) parts found why = absurd why
why_reason canton held bytes (verdicts.Differs wrong) parts found why = absurd why
why_reason canton held bytes verdict parts found why = (parts, none_recomputed canton bytes found, why)

-- the text of a right sheet is in the form of a sheet; any other text is not right
right_formed : (canton : Canton) (held : Option VoteTotals) (bytes : List ℕ) (c : RightSheet) → IsRight canton held bytes c → IsFormed canton bytes
right_formed canton held bytes c is =
    subst (λ text. IsFormed canton text) (sym is.text)
    (subst (λ k. IsFormed k (right_text c)) is.same_setup (sheet_formed c.sheet c.head is.meets.distribution is.desk.0 is.desk.1 (omega (arith, is.accepted))))

pub off_form : (canton : Canton) (held : Option VoteTotals) (bytes : List ℕ) (wrong : WrongLine) → IsOffForm canton bytes wrong →
    (c : RightSheet) → ¬ IsRight canton held bytes c
off_form canton held bytes wrong off c right = off.other (right_formed canton held bytes c right)

-- a right sheet is the one that follows
only_this : (canton : Canton) (held : Option VoteTotals) (bytes : List ℕ) (r : RightSheet) → FindsSheet canton bytes (Some r) →
    (c : RightSheet) → IsRight canton held bytes c → r ≡ c
only_this canton held bytes r found c right = let e : Some r ≡ Some c = only_found canton held bytes (Some r) found c right in cc

-- the text is not that of the sheet that follows
pub other_text : (canton : Canton) (held : Option VoteTotals) (bytes expected : List ℕ) (r : RightSheet) → FindsSheet canton bytes (Some r) →
    expected ≡ right_text r → bytes ≢ expected → (c : RightSheet) → ¬ IsRight canton held bytes c
other_text canton held bytes expected r found printed differ c right =
    differ (right.text ∙ (ap right_text (sym (only_this canton held bytes r found c right)) ∙ sym printed))

pub differs_from : (canton : Canton) (bytes expected : List ℕ) (wrong : WrongLine) (r : RightSheet) → FindsSheet canton bytes (Some r) →
    expected ≡ right_text r → bytes ≢ expected → (bytes ≢ expected → DiffersAt bytes expected expected wrong) → DiffersFromSheet canton bytes wrong
differs_from canton bytes expected wrong r found printed differ at = record {
  sheet = r;
  recomputed = found.some;
  other = λ e. differ (e ∙ sym printed);
  line = subst (λ t. DiffersAt bytes t t wrong) printed (at differ);
}

-- the votes of a sheet are those that its text shows
held_votes : (canton : Canton) (held : Option VoteTotals) (bytes : List ℕ) (c : RightSheet) → IsRecomputed canton bytes c →
    IfSome held (λ h. c.sheet.totals.votes ≡ h.votes) → HasHeldVotes canton held bytes
held_votes canton None bytes c is same = tt
held_votes canton (Some h) bytes c is same = sym (ap (λ t. t.votes) is.votes) ∙ same

read_votes : (canton : Canton) (held : Option VoteTotals) (bytes : List ℕ) (c : RightSheet) → IsRecomputed canton bytes c →
    HasHeldVotes canton held bytes → IfSome held (λ h. c.sheet.totals.votes ≡ h.votes)
read_votes canton None bytes c is same = tt
read_votes canton (Some h) bytes c is same = ap (λ t. t.votes) is.votes ∙ same

-- the votes held are different
pub other_votes : (canton : Canton) (held : Option VoteTotals) (bytes : List ℕ) (other : OtherVotes) → HasOtherVotes canton held bytes other →
    (c : RightSheet) → ¬ IsRight canton held bytes c
other_votes canton held bytes other are c right =
    are.votes (held_votes canton held bytes c (right_recomputed canton held bytes c right) right.votes)

-- the text is in the form of a sheet, and no list is found whose votes differ from those held
pub parts_hold : (canton : Canton) (held : Option VoteTotals) (bytes : List ℕ) (votes : Option OtherVotes) →
    IsFormed canton bytes → votes ≡ None → FindsOtherVotes canton held bytes votes → PartsHold canton held bytes
parts_hold canton held bytes votes formed no_votes are = record {
  form = formed;
  votes = subst (λ f. FindsOtherVotes canton held bytes f) no_votes are;
}

-- the sheet that follows is right
pub found_right : (canton : Canton) (held : Option VoteTotals) (bytes : List ℕ) (r : RightSheet) → PartsHold canton held bytes →
    FindsSheet canton bytes (Some r) → bytes ≡ right_text r → IsRight canton held bytes r
found_right canton held bytes r parts found printed =
    let is : IsRecomputed canton bytes r = found.some in
    record {
      desk = is.desk;
      accepted = omega (arith, ap (λ h. h.accepted) is.head, accepted_most canton bytes);
      same_setup = ap (λ t. t.canton) is.votes;
      meets = is.meets;
      votes = read_votes canton held bytes r is parts.votes;
      text = printed;
    }
