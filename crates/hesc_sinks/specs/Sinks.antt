-- What a sink took, how often it failed, where it writes to, and what stood there at first.
use Rattle.std.specs.Prelude.{◌-◌, ◌^◌, ℕ, List, [], Some, None, Vec, length}
use Rattle.std.specs.Borrow.{MutBor}
use Rattle.hesc_sinks.specs.Took.{Seen, Setting, seen_in}
use Rattle.hesc_sinks.specs.declared.sinks.counter.Counter.{Counter}
use Rattle.hesc_sinks.specs.declared.sinks.filled.FilledRoom.{FilledRoom}
use Rattle.hesc_sinks.specs.declared.sinks.output.Output.{Ghosts as Outputs}
use Rattle.hesc_sinks.specs.declared.sinks.output.OutputSink.{OutputSink}
use Rattle.hesc_sinks.specs.declared.sinks.room.Room.{Ghosts as Rooms}
use Rattle.hesc_sinks.specs.declared.sinks.stack.StackRoom.{StackRoom}
use Rattle.hesc_sinks.specs.declared.sinks.store.StoreSink.{StoreSink}
use Rattle.hesc_sinks.specs.declared.sinks.writer.WriterSink.{WriterSink}
use Rattle.std.specs.declared.io.Write.{Ghosts}

abbrev pub counted : Counter → List ℕ
counted sink = sink.log.taken

abbrev pub counter_seen : Counter → Seen
counter_seen sink = record {
  taken = sink.log.taken;
  failures = sink.log.failures;
  room = 2 ^ 64 - 1 - length sink.log.taken;
  reference = 0;
  before = None;
}

abbrev pub store_sink_seen : {R F : Type 0} {rooms : Rooms R F} → StoreSink R F rooms → Seen
store_sink_seen {rooms = rooms} sink = seen_in (rooms.setting sink.room) sink.end sink.log.taken sink.log.failures

-- how many bytes it has to store over
abbrev pub store_sink_left : {R F : Type 0} {rooms : Rooms R F} → StoreSink R F rooms → ℕ
store_sink_left {rooms = rooms} sink = length (rooms.bytes sink.room) - sink.end

abbrev pub stack_setting : {N : ℕ} → StackRoom N → Setting
stack_setting room = record { start = []; limit = length room.bytes; reference = 0 }

abbrev pub stack_sink_taken : {N : ℕ} {F : Type 0} {rooms : Rooms (StackRoom N) F} → StoreSink (StackRoom N) F rooms → List ℕ
stack_sink_taken sink = sink.log.taken

abbrev pub stack_sink_room : {N : ℕ} {F : Type 0} {rooms : Rooms (StackRoom N) F} → StoreSink (StackRoom N) F rooms → ℕ
stack_sink_room sink = length sink.room.bytes - sink.end

abbrev pub output_sink_taken : {O : Type 0} {outputs : Outputs O} → OutputSink O outputs → List ℕ
output_sink_taken sink = sink.log.taken

abbrev pub output_sink_seen : {O : Type 0} {outputs : Outputs O} → OutputSink O outputs → Seen
output_sink_seen {outputs = outputs} sink = record {
  taken = sink.log.taken;
  failures = sink.log.failures;
  room = outputs.room sink.output.now;
  reference = sink.output.ghost_name;
  before = Some (outputs.bytes sink.start.value);
}

abbrev pub output_sink_output : {O : Type 0} {outputs : Outputs O} → OutputSink O outputs → MutBor O
output_sink_output sink = sink.output

abbrev pub output_sink_start : {O : Type 0} {outputs : Outputs O} → OutputSink O outputs → O
output_sink_start sink = sink.start.value

abbrev pub filled_setting : {A : Type 0} → FilledRoom A → Setting
filled_setting room = record { start = room.start.value.items; limit = room.limit; reference = room.output.ghost_name }

abbrev pub filled_sink_taken : {A F : Type 0} {rooms : Rooms (FilledRoom A) F} → StoreSink (FilledRoom A) F rooms → List ℕ
filled_sink_taken sink = sink.log.taken

abbrev pub filled_sink_output : {A F : Type 0} {rooms : Rooms (FilledRoom A) F} → StoreSink (FilledRoom A) F rooms → MutBor (Vec ℕ A)
filled_sink_output sink = sink.room.output

abbrev pub filled_sink_start : {A F : Type 0} {rooms : Rooms (FilledRoom A) F} → StoreSink (FilledRoom A) F rooms → List ℕ
filled_sink_start sink = sink.room.start.value.items

-- how many bytes it takes before its limit
abbrev pub filled_sink_room : {A F : Type 0} {rooms : Rooms (FilledRoom A) F} → StoreSink (FilledRoom A) F rooms → ℕ
filled_sink_room sink = sink.room.limit - sink.end

abbrev pub writer_sink_taken : {W : Type 0} {writes : Ghosts W} → WriterSink W writes → List ℕ
writer_sink_taken sink = sink.log.taken

abbrev pub writer_sink_seen : {W : Type 0} {writes : Ghosts W} → WriterSink W writes → Seen
writer_sink_seen {writes = writes} sink = record {
  taken = sink.log.taken;
  failures = sink.log.failures;
  room = 0;
  reference = sink.output.ghost_name;
  before = writes.contents sink.start.value;
}

abbrev pub writer_sink_output : {W : Type 0} {writes : Ghosts W} → WriterSink W writes → MutBor W
writer_sink_output sink = sink.output

abbrev pub writer_sink_start : {W : Type 0} {writes : Ghosts W} → WriterSink W writes → W
writer_sink_start sink = sink.start.value
