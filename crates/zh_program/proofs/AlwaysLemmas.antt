-- The images that a stop leaves at each moment.
use Rattle.std.proofs.Common.{◌≡◌, ℕ, List, [], ◌∷◌, ◌++◌, ap}
use Rattle.std.specs.Prelude.{All}
use Rattle.std.proofs.lemmas.List.Elements.{All-nil, All-cons}
use Rattle.zh_disk.specs.Disk.{Moment, Trail, IsImage, AllMove, Leaves}
use Rattle.zh_program.specs.Stopped.{Always}

-- Every image of a moment satisfies P.
abbrev pub AtMoment : (List ℕ → Type 0) → Moment → Type 0
AtMoment P m = (c : List ℕ) → IsImage m c → P c

all_so : (R : List ℕ → List ℕ → Type 0) (P : List ℕ → Type 0) (old : Moment) (between : List Moment) → AllMove R old between
    → ((d c : List ℕ) → IsImage old d → R d c → P c) → AtMoment P old → All (AtMoment P) (between ++ old ∷ [])
all_so R P old [] each so first = All-cons (AtMoment P) old [] first (All-nil (AtMoment P))
all_so R P old (m ∷ ms) each so first =
    All-cons (AtMoment P) m (ms ++ old ∷ []) (λ c image. let from = each.0 c image in so from.0 c from.1 from.2) (all_so R P old ms each.1 so first)

-- The moments of a call that leaves images by R, if R leads to P from each image at the start.
pub always_left : (R : List ℕ → List ℕ → Type 0) (P : List ℕ → Type 0) (old new : Trail) → Leaves R old new
    → ((d c : List ℕ) → IsImage old.now d → R d c → P c) → AtMoment P old.now → Always P old new
always_left R P old new leaves so first = record {
  between = leaves.between;
  run = leaves.run;
  each = all_so R P old.now leaves.between leaves.each so first;
}

-- The moments of a trail that did not change.
pub always_same : (P : List ℕ → Type 0) (old new : Trail) → new ≡ old → AtMoment P old.now → Always P old new
always_same P old new same first = record {
  between = [];
  run = ap (λ (t : Trail). t.now ∷ t.past) same;
  each = All-cons (AtMoment P) old.now [] first (All-nil (AtMoment P));
}
