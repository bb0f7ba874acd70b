-- The reads in a film.
use Rattle.std.proofs.Common.{◌≡◌, inl, inr, ℕ, ◌+◌, ◌<◌, ◌==◌, false, List, ◌∷◌, refl, sym, ap, ◌∙◌, subst, arith, zero-add, ne_eqb}
use Rattle.zh_film.specs.Frames.{Frame, HasEnded, reads_in, reads_noted}
use Rattle.zh_film.specs.declared.kind.FrameKind.{FrameKind}
use Rattle.zh_film.specs.declared.kind.FrameKind.TheVariants.{Asks, Between, Ended}
use Rattle.zh_office.specs.Filmed.{NotesNoRead}

-- a film notes no more reads than itself
pub notes_none : (film : List Frame) → NotesNoRead film film
notes_none film = record { reads = refl; ended = ((λ is. is), (λ is. is)) }

-- two stretches without a read
pub notes_then : (old mid new : List Frame) → NotesNoRead old mid → NotesNoRead mid new → NotesNoRead old new
notes_then old mid new a b = record {
  reads = b.reads ∙ a.reads;
  ended = ((λ is. a.ended.0 (b.ended.0 is)), (λ is. b.ended.1 (a.ended.1 is)));
}

-- a frame between reads
pub no_end_more : (f : Frame) (film : List Frame) → f.kind ≡ Between → HasEnded (f ∷ film) → HasEnded film
no_end_more f film between (inl is) = let wrong : Between ≡ Ended = sym between ∙ is in absurd cc
no_end_more f film between (inr is) = is

pub notes_between : (f : Frame) (old new : List Frame) → f.kind ≡ Between → new ≡ f ∷ old → NotesNoRead old new
notes_between f old new between noted = record {
  reads = ap reads_in noted ∙ ap (λ (kind : FrameKind). reads_noted kind + reads_in old) between ∙ zero-add (reads_in old);
  ended = ((λ is. no_end_more f old between (subst HasEnded noted is)), (λ is. subst HasEnded (sym noted) (inr is)));
}

-- a read is counted
pub read_counts : (then asking : Frame) (old new : List Frame) → reads_noted then.kind ≡ 0 → asking.kind ≡ Asks → new ≡ then ∷ (asking ∷ old) → reads_in new ≡ reads_in old + 1
read_counts then asking old new none asks noted =
    let all = ap reads_in noted in
    let one : reads_noted asking.kind ≡ 1 = ap reads_noted asks in
    omega (arith, all, none, one)

-- a read that gave bytes is not the end
pub no_end_read : (then asking : Frame) (old new : List Frame) → then.kind ≡ Between → asking.kind ≡ Asks → new ≡ then ∷ (asking ∷ old) → ¬ HasEnded old → ¬ HasEnded new
no_end_read then asking old new between asks noted none ended = at (no_end_more then (asking ∷ old) between (subst HasEnded noted ended))
  where
    at : HasEnded (asking ∷ old) → ⊥
    at (inl is) = let wrong : Asks ≡ Ended = sym asks ∙ is in absurd cc
    at (inr is) = none is

-- a read that gave bytes has a nonzero count
pub gave_some : (count : ℕ) → 0 < count → (count == 0) ≡ false
gave_some count some = ne_eqb count 0 (λ none. omega (arith, some, none))
