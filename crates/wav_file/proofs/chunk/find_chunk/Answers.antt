use Rattle.std.proofs.Common.{◌+◌, ◌%◌, ◌<◌, length, sym, subst, ◌∙◌, rules, arith}
use Rattle.std.proofs.lemmas.List.{take_rest}
use Rattle.wav_file.specs.Chunks.{Place, AreChunks, past_chunk, stops}
use Rattle.wav_file.proofs.Search.{stops_here, goes_on, ends_here, ends_past, next_place_is}
use Rattle.wav_file.proofs.chunk.find_chunk.Goals as goal

pub returns-then-at-clause-found : goal.returns-then-at-clause-found
returns-then-at-clause-found c = λ chunks are.
    let left = c.chunks.invariant.same chunks are in
    let p : Place = record { at = c.chunks.at; bytes = c.chunks.bytes.now } in
    subst (AreChunks p) left.2 (stops_here (stops c.args.stop) p left.0 left.1 (omega arith) (cc))

pub returns-then-past-bytes-clause-found : goal.returns-then-past-bytes-clause-found
returns-then-past-bytes-clause-found c = λ chunks are.
    let left = c.chunks.invariant.same chunks are in
    let p : Place = record { at = c.chunks.at; bytes = c.chunks.bytes.now } in
    let size = c.body_size-size.ensures.size in
    let past : length p.bytes < past_chunk p.bytes = rw (← size) (omega arith) in
    sym left.2 ∙ ends_past (stops c.args.stop) p left.0 left.1 (omega arith) (cc) past

pub chunks-preserved : goal.chunks-preserved
chunks-preserved c = record {
  same = λ chunks are.
      let left = c.chunks.invariant.same chunks are in
      let p : Place = record { at = c.chunks.at; bytes = c.chunks.bytes.now } in
      let on = goes_on (stops c.args.stop) p left.0 left.1 (omega arith) (cc) in
      let next = next_place_is p c.body_size-size.result _ c.body_size-size.ensures.size (take_rest c.chunks.bytes.now (8 + c.body_size-size.result + c.body_size-size.result % 2)) in
      (on.0, subst (λ (q : Place). AreChunks q on.0) next on.1, on.2 ∙ left.2);
  end = search rules;
}

pub returns-clause-found : goal.returns-clause-found
returns-clause-found c = λ chunks are.
    let left = c.chunks.invariant.same chunks are in
    let p : Place = record { at = c.chunks.at; bytes = c.chunks.bytes.now } in
    sym left.2 ∙ ends_here (stops c.args.stop) p left.0 left.1 (omega arith)
