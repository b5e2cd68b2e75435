use Rattle.std.proofs.Common.{◌≡◌, ◌+◌, List, length}
use Rattle.wav_file.specs.Chunks.{Place, AreChunks, from_first, place_of, stops}
use Rattle.wav_file.proofs.chunk.find_chunk.Given as goal

-- what is left has the same first chunk
abbrev pub invariant-chunks : goal.invariant-chunks
invariant-chunks l = record {
  same : (chunks : List Place) → AreChunks (place_of l.fn.from) chunks → (left : List Place) × AreChunks (record { at = l.at; bytes = l.bytes }) left × (from_first (stops l.stop) left ≡ from_first (stops l.stop) chunks);
  end : l.at + length l.bytes ≡ l.fn.from.at + length l.fn.from.bytes.now;
}

abbrev pub decreases-chunks : goal.decreases-chunks
decreases-chunks l = length l.bytes
