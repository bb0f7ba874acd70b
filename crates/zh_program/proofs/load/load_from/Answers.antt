use Rattle.std.proofs.Common.{rules, refl, ◌≡◌, [], Err, arith, inl, inr, ⊎_elim}
use Rattle.std.specs.Io.Buffered.{reader_remaining}
use Rattle.zh_csv.specs.Noted.{has_failed, inner_reader}
use Rattle.zh_film.specs.Frames.{frames}
use Rattle.zh_ledger.specs.Submissions.{on_disk}
use Rattle.zh_program.specs.Load.{LoadedBy, LoadsFile, failed_of, given_text}
use Rattle.zh_program.specs.Opened.{IsFrom}
use Rattle.zh_program.specs.declared.fault.TaskFault.TheVariants as faults
use Rattle.zh_program.specs.Run.{streams}
use Rattle.zh_program.specs.World.{IsMetAt}
use Rattle.zh_program.proofs.LoadLemmas.{kept_in, kept_itself, loaded_calls, unread_calls, unread_calm}
use Rattle.zh_program.proofs.TaskRunLemmas.{with_office}
use Rattle.zh_program.proofs.StartLemmas.{leaves_after, refused_leaves, starts, untouched_leaves}
use Rattle.zh_program.proofs.load.load_from.Goals as goal

pub returns-in_err-office : goal.returns-in_err-office
returns-in_err-office g c =
    let is : c.from_residual.result ≡ Err (faults.Open c.in_err-office.field-0.0) = search rules in
    rw is (record {
      rest = refl;
      counted = omega arith;
      stays = refl;
      text = given_text (g.F.Files.text_at c.args.world.now.files c.args.csv.now) (failed_of c.args.filmed.now.text);
      read = kept_itself _;
      noted = refl;
      loaded = ((refl, c.requires), c.in_err-office.ensures.opening);
      disk = refused_leaves _ _ _ c.in_err-office.field-0.0 c.in_err-office.ensures.opening;
    })

pub returns-in_err-text : goal.returns-in_err-text
returns-in_err-text g c =
    let is : c.from_residual-in_err-text.result ≡ Err c.in_err-text.field-0.0 = search rules in
    let canton = c.args.setup.now in
    let first = g.F.Disk.Disk.history c.args.filmed.now.disk in
    let last = g.F.Disk.Disk.history c.open.new.disk in
    let start = on_disk c.in_ok-office.office last in
    let begins : IsFrom canton first last start start
    = record { begun = starts canton first start c.in_ok-office.ensures.opening c.in_ok-office.ensures.held; ended = refl; honest = λ h. h } in
    let text = given_text (g.F.Files.text_at c.args.world.now.files c.args.csv.now) (failed_of c.args.filmed.now.text) in
    let now = streams (g.I.Read.remaining c.args.world.now.input) (g.O.Write.contents c.args.world.now.output) in
    let Met = IsMetAt g.F.Files c.args.csv.now c.args.world.now.files c.text_at.new.files in
    let Loads = LoadsFile Met _ (LoadedBy text (now []) (now (frames g.I.Read g.O.Write g.F.Disk.Disk c.args.filmed.now.film))) in
    rw is (record {
      rest = refl;
      counted = omega (arith, c.text_at.ensures.call.counted, unread_calls Met c.in_err-text.field-0.0 c.in_err-text.ensures.fault);
      stays = c.text_at.ensures.call.stays;
      text = text;
      read = kept_itself _;
      noted = refl;
      loaded = with_office canton first last _ Loads (Err c.in_err-text.field-0.0) (λ fault by. ⊎_elim (λ none. none.did) (λ unread. unread.0) by) (inr (c.in_err-text.ensures.fault, (refl, c.requires), (start, begins)));
      disk = leaves_after canton first last last _ (Err c.in_err-text.field-0.0) c.in_ok-office.ensures.opening (untouched_leaves last (Err c.in_err-text.field-0.0) (unread_calm Met c.in_err-text.field-0.0 c.in_err-text.ensures.fault));
    })

pub returns : goal.returns
returns g c =
    let canton = c.args.setup.now in
    let first = g.F.Disk.Disk.history c.args.filmed.now.disk in
    let last = g.F.Disk.Disk.history c.load_text-result.new.disk in
    let start = on_disk c.in_ok-office.office (g.F.Disk.Disk.history c.open.new.disk) in
    let left = g.I.Read.remaining c.args.world.now.input in
    let old = streams left (g.O.Write.contents c.args.world.now.output) [] in
    let new = streams left (g.O.Write.contents c.load_text-result.new.out) (frames g.I.Read g.O.Write g.F.Disk.Disk c.load_text-result.new.film) in
    let read = kept_in _ (reader_remaining g.F.Text.Read.remaining) c.in_ok-text.text (inner_reader c.new-noted.result) c.new-noted.ensures.over c.in_ok-text.ensures.text in
    let given = given_text (reader_remaining g.F.Text.Read.remaining (inner_reader c.new-noted.result)) (has_failed c.load_text-result.new.reader) in
    let Met = IsMetAt g.F.Files c.args.csv.now c.args.world.now.files c.text_at.new.files in
    let loads : LoadedBy given old new (IsFrom canton first last) c.load_text-result.result = record {
      start = start;
      end = on_disk c.load_text-result.new.office last;
      spans = record { begun = starts canton first start c.in_ok-office.ensures.opening c.in_ok-office.ensures.held; ended = refl; honest = c.load_text-result.ensures.disk.kept };
      did = c.load_text-result.ensures.loaded;
    } in
    record {
      rest = refl;
      counted = omega (arith, c.text_at.ensures.call.counted, loaded_calls given c.load_text-result.result _ _ c.load_text-result.ensures.loaded);
      stays = c.text_at.ensures.call.stays;
      text = given;
      read = read;
      noted = refl;
      loaded = with_office canton first last _ (LoadsFile Met _ (LoadedBy given old new)) c.load_text-result.result (λ fault by. ⊎_elim (λ none. none.did) (λ unread. unread.0) by) (inl loads);
      disk = leaves_after canton first start.history last _ c.load_text-result.result c.in_ok-office.ensures.opening c.load_text-result.ensures.disk;
    }

pub load_text-result-requires-clause-film : goal.load_text-result-requires-clause-film
load_text-result-requires-clause-film g c = c.requires

pub load_text-result-requires-clause-whole : goal.load_text-result-requires-clause-whole
load_text-result-requires-clause-whole g c = c.in_ok-office.ensures.opening.ready.whole
