use Rattle.zemor.proofs.Writing.{bytes_by_place, entries_read}
use Rattle.zemor.proofs.matrix.written.read_entries.Goals as goal

pub returns : goal.returns
returns c =
    let bs = c.args.bytes.now in
    record {
      value = entries_read bs c.as_chunks.result.0.now _ c.told-bytes c.as_chunks.ensures.front c.from_be_bytes.ensures c.from_be_bytes-2.ensures c.from_be_bytes-3.ensures c.from_be_bytes-4.ensures;
      typed = (c.told-bytes, bytes_by_place bs c.fits-bytes);
    }
