-- Which lists of bytes each of the three sinks stands for.
use Rattle.std.specs.Prelude.{◌≡◌, ◌-◌, length, take, vec_items, vec_len}
use Rattle.write.specs.Checksums.{checksum}
use Rattle.write.specs.Sinks.{Meaning}
use Rattle.write.specs.declared.buffer.WriteBuffer.{WriteBuffer}
use Rattle.write.specs.declared.checksum.WriteChecksum.{WriteChecksum}
use Rattle.write.specs.declared.counter.WriteCounter.{WriteCounter}

-- A buffer stands for exactly its bytes.
abbrev pub buffer : Meaning WriteBuffer
buffer =
    record {
      stands = λ s xs. xs ≡ take s.written (vec_items s.bytes);
      count = λ s. s.written;
      space = λ s. vec_len s.bytes - s.written;
    }

-- A counter stands for every list of its count.
abbrev pub counter : Meaning WriteCounter
counter =
    record { stands = λ s xs. length xs ≡ s.count; count = λ s. s.count; space = λ s. 4294967295 - s.count }

-- A checksum stands for every list of its count and its sum.
abbrev pub summed : Meaning WriteChecksum
summed =
    record {
      stands = λ s xs. (length xs ≡ s.counter.count) × (checksum xs ≡ s.sum);
      count = λ s. s.counter.count;
      space = λ s. 4294967295 - s.counter.count;
    }
