-- When a published sheet is right, and which of its lines is wrong if it is not.
use Rattle.std.specs.Prelude.{◌≡◌, ◌≢◌, ℕ, ◌-◌, ◌^◌, ◌≤◌, Option, Some, IfSome, List}
use Rattle.zh_districts.specs.Canton.{Canton}
use Rattle.zh_totals.specs.Totals.{VoteTotals}
use Rattle.zh_sheet.specs.Given.{IsPublished}
use Rattle.zh_sheet_text.specs.SheetText.{sheet_text}
use Rattle.zh_check.specs.Cells.{EachFollows, IsOffList}
use Rattle.zh_check.specs.Differences.{DiffersAt}
use Rattle.zh_check.specs.Form.{IsFormed, IsOffForm}
use Rattle.zh_check.specs.Others.{HasHeldVotes, HasOtherVotes}
use Rattle.zh_check.specs.Reading.{head_read, lists_read, totals_read}
use Rattle.zh_check.specs.Totals.{IsNoneOff, IsOffTotal}
use Rattle.zh_check.specs.declared.checked.RightSheet.{RightSheet}
use Rattle.zh_check.specs.declared.checked.SheetVerdict.TheVariants as verdicts
use Rattle.zh_check.specs.declared.checked.SheetVerdict.{SheetVerdict}
use Rattle.zh_check.specs.declared.checked.SheetVerdict.TheVariants.{Differs, NoSheet, OffForm, OffList, OffTotal, Right}
use Rattle.zh_check.specs.declared.checked.WrongLine.{WrongLine}

abbrev pub right_text : RightSheet → List ℕ
right_text c = sheet_text c.sheet c.head.desk c.head.is_final c.head.accepted

-- the bytes are the text of a published distribution of this set-up, for a desk from 1 to 8; its votes are those held, if these are given
pub record IsRight (canton : Canton) (held : Option VoteTotals) (bytes : List ℕ) (c : RightSheet) : Type 0 where
  pub desk : (1 ≤ c.head.desk) × (c.head.desk ≤ 8)
  pub accepted : c.head.accepted ≤ 2 ^ 64 - 1
  pub same_setup : c.sheet.totals.canton ≡ canton
  pub meets : IsPublished c.sheet
  pub votes : IfSome held (λ h. c.sheet.totals.votes ≡ h.votes)
  pub text : bytes ≡ right_text c

-- the sheet that follows from the first line, and the votes, divisors and seats of the lists, that the bytes show
pub record IsRecomputed (canton : Canton) (bytes : List ℕ) (c : RightSheet) : Type 0 where
  pub votes : c.sheet.totals ≡ totals_read canton bytes
  pub lists : c.sheet.lower ≡ lists_read canton bytes
  pub meets : IsPublished c.sheet
  pub desk : (1 ≤ c.head.desk) × (c.head.desk ≤ 8)
  pub head : c.head ≡ head_read canton bytes

-- it is found if and only if it exists
pub record FindsSheet (canton : Canton) (bytes : List ℕ) (found : Option RightSheet) : Type 0 where
  pub some : IfSome found (IsRecomputed canton bytes)
  pub every : (c : RightSheet) → IsRecomputed canton bytes c → found ≡ Some c

-- the text of that sheet is different, and this is the first line that differs
pub record DiffersFromSheet (canton : Canton) (bytes : List ℕ) (wrong : WrongLine) : Type 0 where
  pub sheet : RightSheet
  pub recomputed : IsRecomputed canton bytes sheet
  pub other : bytes ≢ right_text sheet
  pub line : DiffersAt bytes (right_text sheet) (right_text sheet) wrong

-- with the verdict `Right`, the bytes are the text of this right sheet; with any other, they are not that of a right sheet
abbrev pub IsRightExactly : Canton → Option VoteTotals → List ℕ → SheetVerdict → Type 0
IsRightExactly canton held bytes (Right c) = IsRight canton held bytes c
IsRightExactly canton held bytes verdict = (c : RightSheet) → ¬ IsRight canton held bytes c

-- no sheet follows from what the bytes show
abbrev pub FollowsNone : Canton → List ℕ → Type 0
FollowsNone canton bytes = (c : RightSheet) → ¬ IsRecomputed canton bytes c

-- why no sheet follows: the first of these reasons that applies
abbrev pub IsWhyNone : Canton → List ℕ → SheetVerdict → Type 0
IsWhyNone canton bytes (OffList off) = IsOffList canton bytes off
IsWhyNone canton bytes (OffTotal off) = EachFollows canton bytes × IsOffTotal canton bytes off
IsWhyNone canton bytes NoSheet = EachFollows canton bytes × IsNoneOff canton bytes
IsWhyNone canton bytes verdict = ⊥

-- the first two parts of the check hold: the text is in the form of a sheet, and its votes are those held
pub record PartsHold (canton : Canton) (held : Option VoteTotals) (bytes : List ℕ) : Type 0 where
  pub form : IsFormed canton bytes
  pub votes : HasHeldVotes canton held bytes

-- the reason for a verdict: the first line that is not of its kind; otherwise the first list with other votes than those held; otherwise
-- the sheet that follows, or the first reason why none does
abbrev pub IsReasonOf : Canton → Option VoteTotals → List ℕ → SheetVerdict → Type 0
IsReasonOf canton held bytes (OffForm wrong) = IsOffForm canton bytes wrong
IsReasonOf canton held bytes (verdicts.OtherVotes other) = IsFormed canton bytes × HasOtherVotes canton held bytes other
IsReasonOf canton held bytes (Differs wrong) = PartsHold canton held bytes × DiffersFromSheet canton bytes wrong
IsReasonOf canton held bytes (Right c) = PartsHold canton held bytes × IsRecomputed canton bytes c
IsReasonOf canton held bytes verdict = PartsHold canton held bytes × FollowsNone canton bytes × IsWhyNone canton bytes verdict
