-- what each memory means: its bytes, and what its buffers hold beyond them
use Rattle.std.specs.Prelude.{ℕ, List, ◌++◌}
use Rattle.std.specs.Global.{Vec}
use Rattle.memory.specs.Bytes.{front, rest}
use Rattle.memory.specs.Turns.{turns, unturned}
use Rattle.memory.specs.declared.buffered.BufferMemory.{BufferMemory}
use Rattle.memory.specs.declared.pair.PairMemory.{PairMemory}

-- over a buffer: the first of all its bytes
abbrev pub buffer_bytes : {B : Type 0} → (B → List ℕ) → BufferMemory B → List ℕ
buffer_bytes all m = front (all m.buffer)

-- beyond them: under which loan the buffer is, and the bytes that are left over
abbrev pub buffer_beyond : {B : Type 0} → (B → List ℕ) → (B → List ℕ) → BufferMemory B → List ℕ
buffer_beyond all loan m = loan m.buffer ++ rest (all m.buffer)

-- over bytes that are owned
abbrev pub ByteMemory : Type 0
ByteMemory = BufferMemory (Vec ℕ)

-- over words
abbrev pub WordMemory : Type 0
WordMemory = BufferMemory (Vec ℕ)

-- two memories with bytes xs and ys in turn
abbrev pub joined_bytes : List ℕ → List ℕ → List ℕ
joined_bytes xs ys = front (turns xs ys)

abbrev pub joined_beyond : List ℕ → List ℕ → List ℕ
joined_beyond xs ys = rest (turns xs ys) ++ unturned xs ys

abbrev pub pair_bytes : {F S : Type 0} → (F → List ℕ) → (S → List ℕ) → PairMemory F S → List ℕ
pair_bytes f s m = joined_bytes (f m.first) (s m.second)

-- beyond the bytes of a pair: what of its two memories' bytes has no place in it, and what lies beyond each of them
abbrev pub pair_beyond : {F S : Type 0} → (F → List ℕ) → (S → List ℕ) → (F → List ℕ) → (S → List ℕ) → PairMemory F S → List ℕ
pair_beyond f s f' s' m = joined_beyond (f m.first) (s m.second) ++ (f' m.first ++ s' m.second)
