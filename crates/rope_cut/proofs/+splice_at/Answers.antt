use Rattle.std.proofs.Common.{arith}
use Rattle.rope.proofs.Readings.{splits_of}
use Rattle.rope_cut.proofs.Splicing.{left_rooted, left_short, left_free, left_done, right_rooted, right_short, right_free, right_done}
use Rattle.rope_cut.proofs.+splice_at.Goals as goal

pub join_roots-requires : goal.join_roots-requires
join_roots-requires g t c =
    let e = splits_of c.record.ensures c.in-Inner.is in
    record {
      rooted = left_rooted c.requires e (omega (arith, c.record-split.ensures.long)) (omega (arith, c.record-then-b-split.ensures.high)) c.splice_at-l.ensures;
      short = left_short c.requires e (omega (arith, c.record-split.ensures.long)) (omega (arith, c.record-then-b-split.ensures.high)) c.splice_at-l.ensures;
      free = left_free c.requires e (omega (arith, c.record-split.ensures.long)) (omega (arith, c.record-then-b-split.ensures.high)) c.splice_at-l.ensures;
    }

pub returns-then-record-least : goal.returns-then-record-least
returns-then-record-least g t c =
    let e = splits_of c.record.ensures c.in-Inner.is in
    left_done c.requires e (omega (arith, c.record-split.ensures.long)) (omega (arith, c.record-then-b-split.ensures.high)) c.splice_at-l.ensures c.join_roots.ensures.makes c.join_roots.ensures.least

pub join_roots-requires-then-record-least-2 : goal.join_roots-requires-then-record-least-2
join_roots-requires-then-record-least-2 g t c =
    let e = splits_of c.record.ensures c.in-Inner.is in
    let n = c.record-split.result.length in
    record {
      rooted = right_rooted c.requires e n c.record-split.ensures.long (omega arith) (omega (arith, c.record-then-a-split.ensures.high)) c.splice_at-r.ensures;
      short = right_short c.requires e n c.record-split.ensures.long (omega arith) (omega (arith, c.record-then-a-split.ensures.high)) c.splice_at-r.ensures;
      free = right_free c.requires e n c.record-split.ensures.long (omega arith) (omega (arith, c.record-then-a-split.ensures.high)) c.splice_at-r.ensures;
    }

pub returns-then-record-least-2 : goal.returns-then-record-least-2
returns-then-record-least-2 g t c =
    let e = splits_of c.record.ensures c.in-Inner.is in
    let n = c.record-split.result.length in
    right_done c.requires e n c.record-split.ensures.long (omega arith) (omega (arith, c.record-then-a-split.ensures.high)) c.splice_at-r.ensures c.join_roots-then-record-least-2.ensures.makes c.join_roots-then-record-least-2.ensures.least
