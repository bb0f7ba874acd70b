use Rattle.zh_file.proofs.memory_file.MemoryFileFile.set_len.Goals as goal

pub returns-clause-frozen : goal.returns-clause-frozen
returns-clause-frozen c = λ frozen.
    let still = c.set_len.ensures.frozen frozen in (
      still.0,
      record {
        frozen = still.1.frozen;
        same = still.1.same;
        clean = still.1.clean;
        no_more = still.1.no_more;
        no_fewer = still.1.no_fewer;
      },
    )
