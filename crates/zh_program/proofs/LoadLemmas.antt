-- What loading a CSV file has done, by its result.
use Rattle.std.proofs.Common.{◌≡◌, ◌≤◌, ◌<◌, ◌∙◌, ℕ, List, [], length, take, Option, Some, None, Result, Ok, Err, IfOk, OnErr, false, refl, sym, ap, arith, subst, inl, inr, Bor, ◌==◌, if◌then◌else◌}
use Rattle.std.proofs.lemmas.Bool.{cases_lt}
use Rattle.std.specs.Prelude.{IfSome}
use Rattle.std.specs.Result.{is_err}
use Rattle.std.specs.Io.Buffered.{reader_buffer, reader_capacity, reader_inner, reader_remaining}
use Rattle.std.specs.Io.KnownBytes.{Appends, Keeps, prepend_known}
use Rattle.std.specs.declared.io.buffered.BufReader.{BufReader}
use Rattle.zh_office.specs.Served.{Session}
use Rattle.zh_program.specs.Opened.{IsOfDevice}
use Rattle.zh_program.specs.Load.{GivenText, HasBegun, IsUnreadable, LoadsText, WritesPart, text_calls}
use Rattle.zh_file.specs.declared.fault.FileFault.{FileFault}
use Rattle.zh_program.specs.declared.place.TaskFile.TheVariants as files
use Rattle.zh_program.specs.declared.fault.TaskFault.{TaskFault}
use Rattle.zh_program.specs.declared.fault.TaskFault.TheVariants as faults

pub writes_front : (w w' : Option (List ℕ)) (text text' : List ℕ) → text ≡ text' → (n : ℕ) × (n < length text) × Appends w w' (take n text) → WritesPart w w' text'
writes_front w w' text text' is (n, part, written) = subst (λ (t : List ℕ). WritesPart w w' t) is (record { front = n; part = part; written = written })

pub put_front : {T E : Type 0} (result : Result T E) (w w' : Option (List ℕ)) (text text' : List ℕ) → text ≡ text' → OnErr result ((n : ℕ) × (n < length text) × Appends w w' (take n text)) → OnErr result (WritesPart w w' text')
put_front (Ok done) w w' text text' is front = tt
put_front (Err fault) w w' text text' is front = writes_front w w' text text' is front

-- A file that gives no text is not reported as a fault of the device.
pub unread_calm : (Met : FileFault → Type 0) (fault : TaskFault) → IsUnreadable Met fault → IsOfDevice fault → ⊥
unread_calm Met (faults.Unopened files.Csv cause) is of_device = of_device
unread_calm Met (faults.Unreadable files.Csv) is of_device = of_device
unread_calm Met faults.Memory is of_device = of_device
unread_calm Met fault is of_device = absurd is

-- The file was asked for in one call.
pub unread_calls : (Met : FileFault → Type 0) (fault : TaskFault) → IsUnreadable Met fault → text_calls (Err fault) ≡ 1
unread_calls Met (faults.Unopened files.Csv cause) is = refl
unread_calls Met (faults.Unreadable files.Csv) is = refl
unread_calls Met faults.Memory is = refl
unread_calls Met fault is = absurd is

pub loaded_calls : (text : GivenText) (result : Result (Unit {0}) TaskFault) (old new : Session) → LoadsText text result old new → text_calls result ≡ 1
loaded_calls text (Ok done) old new by = refl
loaded_calls text (Err faults.Refused) old new by = refl
loaded_calls text (Err faults.Faulted) old new by = refl
loaded_calls text (Err faults.Write) old new by = refl
loaded_calls text (Err fault) old new by = absurd by

-- A successful read gave at least one byte, or met the end.
pub has_begun : {E : Type 0} (known : Option (List ℕ)) (read : List ℕ) (result : Result (Bor (List ℕ)) E) → is_err result ≡ false
    → IfSome known (λ bytes. IfOk result (λ s. IfSome {T = ℕ} (Some (length read)) (λ n. length s.now ≤ n)))
    → IfSome known (λ bytes. IfOk result (λ s. length s.now ≡ 0 → bytes ≡ [])) → HasBegun known read
has_begun None read result ok shown end = tt
has_begun (Some bytes) read (Err fault) ok shown end = absurd cc
has_begun (Some bytes) read (Ok s) ok shown end = elim (cases_lt 0 (length s.now)) [
  | inl some ↦ inr (omega (arith, some, shown))
  | inr none ↦ inl (end (omega (arith, none)))
]

-- What is known of a text that is not read stays the same.
pub kept_itself : (text : Option (List ℕ)) → Keeps text text
kept_itself None = tt
kept_itself (Some text) = refl

pub kept_in : {X : Type 0} (known : Option (List ℕ)) (remaining : X → Option (List ℕ)) (text other : X) → other ≡ text → Keeps known (remaining text) → Keeps known (remaining other)
kept_in known remaining text other is kept = subst (λ (x : Option (List ℕ)). Keeps known x) (sym (ap remaining is)) kept

-- What a new buffered reader has left is what its inner reader has left.
pub fresh_buffer : {T A : Type 0} (remaining : T → Option (List ℕ)) (reader : BufReader T A) (inner : T) → reader_capacity reader ≡ 8192 → reader_buffer reader ≡ [] → reader_inner reader ≡ inner
    → reader_remaining remaining reader ≡ remaining inner
fresh_buffer remaining reader inner capacity empty is =
    ap (λ (n : ℕ). if n == 0 then None else prepend_known (reader_buffer reader) (remaining reader.inner)) capacity
    ∙ ap (λ (l : List ℕ). prepend_known l (remaining reader.inner)) empty
    ∙ nothing_before (remaining reader.inner)
    ∙ ap remaining is
  where
    nothing_before : (known : Option (List ℕ)) → prepend_known [] known ≡ known
    nothing_before None = refl
    nothing_before (Some text) = refl
