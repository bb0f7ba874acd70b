-- What a prefix of the exchanges logs, by the texts of its answers: an answer that logs a command has a text, so where all of a
-- prefix's texts are written, its whole log is.
use Rattle.std.proofs.Common.{◌≡◌, ◌⊎◌, ◌≤◌, ◌+◌, ℕ, List, [], ◌∷◌, ◌++◌, length, decimal, Option, None, Some}
use Rattle.std.proofs.Common.{inl, inr, ⊎_elim, refl, sym, ◌∙◌, ap, arith, append_assoc, append-nil, length-append}
use Rattle.std.specs.Prelude.{flat_map}
use Rattle.std.proofs.lemmas.List.{append_cancel_left}
use Rattle.std.proofs.lemmas.List.Concat.{flat_map-append}
use Rattle.zh_returns.specs.declared.command.Command.{Command}
use Rattle.zh_commands.specs.Lines.{desk_of}
use Rattle.zh_commands.specs.Replies as replies
use Rattle.zh_commands.specs.declared.replies.Reply.{Reply}
use Rattle.zh_ledger.specs.Submissions.{Log, followed_by, nothing}
use Rattle.zh_office.specs.declared.answer.Answer.{Answer}
use Rattle.zh_office.specs.declared.answer.Answer.TheVariants as answers
use Rattle.zh_office.specs.Exchanges.{Exchange, Given, answer_to_given, log_by, log_of, text_of}
use Rattle.zh_office.specs.Exchanges.Given.{line, text}
use Rattle.zh_office.proofs.CallerLemmas.{log_append, log_more}
use Rattle.zh_program.proofs.ExcludeLemmas.{one_at_most}

-- An answer that logs a command has a text.
some_bytes : (front back : List ℕ) (byte : ℕ) → front ++ byte ∷ back ≡ [] → ⊥
some_bytes [] back byte is = absurd cc
some_bytes (b ∷ front) back byte is = absurd cc

has_text : (given : Given) (accepted : ℕ) (reply : Reply) → answer_to_given given accepted (answers.Reply reply) ≡ [] → ⊥
has_text (line bytes reading) accepted reply is = some_bytes (decimal (desk_of bytes) ++ 32 ∷ replies.answer reply) [] 10 is
has_text (text bytes loaded) accepted reply is = some_bytes (replies.answer reply) [] 10 is

unlogged : (command : Option Command) (given : Given) (accepted : ℕ) (answer : Answer) → answer_to_given given accepted answer ≡ [] → log_by command answer ≡ nothing
unlogged None given accepted answer is = refl
unlogged (Some command) given accepted (answers.Reply reply) is = absurd (has_text given accepted reply is)
unlogged (Some command) given accepted (answers.Sheet sheet is_final) is = refl

none_front : (xs ys : List ℕ) → xs ++ ys ≡ [] → (xs ≡ []) × (ys ≡ [])
none_front [] ys is = (refl, is)
none_front (x ∷ xs) ys is = absurd cc

unlogged_all : (xs : List Exchange) → flat_map text_of xs ≡ [] → log_of xs ≡ nothing
unlogged_all [] is = refl
unlogged_all (x ∷ xs) is =
    let none = none_front (text_of x) (flat_map text_of xs) is in
    let one : log_by x.command x.answer ≡ nothing = unlogged x.command x.given x.count.accepted x.answer none.0 in
    ap (λ (l : Log). followed_by l (log_of xs)) one ∙ ap (followed_by nothing) (unlogged_all xs none.1)

-- Of two prefixes, one extends the other.
pub two_parts : (xs ys A B : List Exchange) → xs ++ A ≡ ys ++ B → ((zs : List Exchange) × (ys ≡ xs ++ zs)) ⊎ ((zs : List Exchange) × (xs ≡ ys ++ zs))
two_parts [] ys A B is = inl (ys, refl)
two_parts (x ∷ xs) [] A B is = inr (x ∷ xs, refl)
two_parts (x ∷ xs) (y ∷ ys) A B is =
    let one : x ≡ y = cc in
    let tail : xs ++ A ≡ ys ++ B = cc in
    ⊎_elim
    (λ (more : (zs : List Exchange) × (ys ≡ xs ++ zs)).
    inl (more.0, ap (λ (l : List Exchange). y ∷ l) more.1 ∙ ap (λ (z : Exchange). z ∷ (xs ++ more.0)) (sym one)))
    (λ (less : (zs : List Exchange) × (xs ≡ ys ++ zs)).
    inr (less.0, ap (λ (l : List Exchange). x ∷ l) less.1 ∙ ap (λ (z : Exchange). z ∷ (ys ++ less.0)) one))
    (two_parts xs ys A B tail)

-- Exchanges whose answers begin with those of others log at least as much.
pub record LogsMore (some all : Log) : Type 0 where
  pub acknowledged : some.acknowledged ≤ all.acknowledged
  pub accepted : length some.accepted ≤ length all.accepted

pub logs_more : (xs ys A B : List Exchange) (more : List ℕ) → xs ++ A ≡ ys ++ B
    → flat_map text_of xs ++ more ≡ flat_map text_of ys
    → LogsMore (log_of xs) (log_of ys)
logs_more xs ys A B more parts front = ⊎_elim {C = LogsMore (log_of xs) (log_of ys)}
    (λ (m : (zs : List Exchange) × (ys ≡ xs ++ zs)).
    let logs : log_of ys ≡ followed_by (log_of xs) (log_of m.0) = ap log_of m.1 ∙ log_append xs m.0 in
    record {
      acknowledged = omega (arith, ap (λ (l : Log). l.acknowledged) logs);
      accepted = omega (arith, ap (λ (l : Log). length l.accepted) logs, length-append (log_of xs).accepted (log_of m.0).accepted);
    })
    (λ (m : (zs : List Exchange) × (xs ≡ ys ++ zs)).
    let texts = flat_map text_of ys in
    let others = flat_map text_of m.0 in
    let both : flat_map text_of xs ≡ texts ++ others = ap (flat_map text_of) m.1 ∙ flat_map-append text_of ys m.0 in
    let whole : texts ++ (others ++ more) ≡ texts ++ []
    = sym (append_assoc texts others more) ∙ ap (λ (l : List ℕ). l ++ more) (sym both) ∙ front ∙ sym (append-nil texts) in
    let none = none_front others more (append_cancel_left texts (others ++ more) [] whole) in
    let logs : log_of xs ≡ followed_by (log_of ys) nothing = ap log_of m.1 ∙ log_append ys m.0 ∙ ap (followed_by (log_of ys)) (unlogged_all m.0 none.0) in
    record {
      acknowledged = omega (arith, ap (λ (l : Log). l.acknowledged) logs);
      accepted = omega (arith, ap (λ (l : Log). length l.accepted) logs, length-append (log_of ys).accepted []);
    })
    (two_parts xs ys A B parts)

-- One exchange more logs at most one command more.
pub one_more : (done one : List Exchange) → length one ≤ 1 → length (log_of (done ++ one)).accepted ≤ length (log_of done).accepted + 1
one_more done [] single = omega (arith, ap (λ (l : List Exchange). length (log_of l).accepted) (append-nil done))
one_more done (x ∷ []) single =
    let all = ap (λ (l : Log). length l.accepted) (log_more done x) in
    let both = length-append (log_of done).accepted (log_by x.command x.answer).accepted in
    ⊎_elim
    (λ none. omega (arith, all, both, ap length none))
    (λ some. omega (arith, all, both, ap length some.1))
    (one_at_most x.command x.answer)
one_more done (x ∷ (y ∷ more)) single = absurd (omega (arith, single))
