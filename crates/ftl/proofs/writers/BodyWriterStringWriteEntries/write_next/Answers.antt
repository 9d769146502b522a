use Rattle.ftl.proofs.writers.BodyWriterStringWriteEntries.write_next.Goals as goal

pub returns : goal.returns
returns c = record {
  written = record {
    added = λ {tree} has. record {
      start = has.start;
      is_empty = has.is_empty;
      wrote = c.write_entry.ensures.written has.start tree has.wrote;
    };
  };
}
