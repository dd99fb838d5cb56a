use Rattle.std.proofs.Common.{◌+◌, length, subst, arith}
use Rattle.std.proofs.lemmas.List.{length-take}
use Rattle.std.proofs.lemmas.Str.{IsUtf8-had}
use Rattle.hesc_sinks.proofs.Stores.{stored_first}
use Rattle.hesc_sinks.proofs.sinks.stores.SmallTextStoring.store_at.Goals as goal
use Rattle.hesc_sinks.specs.Stores.{Stored}
use Rattle.hesc_sinks.specs.Text.{small_text_bytes}

pub returns-clause-stored : goal.returns-clause-stored
returns-clause-stored c =
    rw c.len.ensures
    (subst (λ bytes. Stored c.args.room.now c.store_block.new.room c.args.place bytes (c.args.place + length (small_text_bytes c.args.self.now))) c.block.ensures
    (stored_first c.args.room.now c.store_block.new.room c.block.result c.args.place 8 (length (small_text_bytes c.args.self.now)) _ (omega (arith, c.args.self.now.short, length-take c.args.self.now.len c.args.self.now.bytes)) (omega arith) (omega (arith, c.requires)) c.store_block.ensures))

pub returns-clause-utf8 : goal.returns-clause-utf8
returns-clause-utf8 c = IsUtf8-had _ c.args.self.now.utf8
