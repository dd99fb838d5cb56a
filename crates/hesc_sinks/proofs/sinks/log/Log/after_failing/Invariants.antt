use Rattle.std.proofs.Common.{◌+◌}
use Rattle.hesc_sinks.proofs.sinks.log.Log.after_failing.Given as goal

abbrev pub ghost-saying : goal.ghost-saying
ghost-saying a = (a._before.now.taken, a._before.now.failures + 1)
