use Rattle.std.proofs.Common.{refl}
use Rattle.zh_program.proofs.run.rehearse.Goals as goal

pub serve_rehearsal-result-requires : goal.serve_rehearsal-result-requires
serve_rehearsal-result-requires g c = c.new-film.ensures

pub returns : goal.returns
returns g c = record {
  film = _;
  used = refl;
  rest = refl;
  said = c.announce-world.ensures;
  served = c.serve_rehearsal-result.ensures.served;
  reads = c.serve_rehearsal-result.ensures.reads;
}
