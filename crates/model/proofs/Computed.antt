-- Everything that computing an example has to open, named once: a proof that says `unfolding computed` computes.
use Rattle.lists.specs.Bytes
use Rattle.lists.specs.Over
use Rattle.model.specs.Stored
use Rattle.model.specs.Rows
use Rattle.model.specs.Header
use Rattle.model.specs.Table
use Rattle.model.specs.Rules
use Rattle.model.specs.Command
use Rattle.model.specs.Events
use Rattle.model.specs.Sound
use Rattle.model.specs.Session
use Rattle.model.specs.Order
use Rattle.model.specs.Lines
use Rattle.model.proofs.Scenes

unfoldable pub computed : Unit {0}
unfolding lib.Count.ones Bytes.all_zero Bytes.same Over.overwrite Stored.chip_of Stored.chip_form Stored.fresh_card
    Stored.padded_zero Stored.record_of Rows.row_table Rows.row_at Rows.row_from Rows.row_of Rows.taken Rows.with_row
    Rows.missing_from Rows.mandatory_missing Rows.ready_for Rows.none_from Rows.rising Rows.due Header.long_form
    Header.header_of Table.descriptor_of Table.clashes Table.counter_among Table.rules_ok Table.total Table.admit_of
    Table.table_passes Table.spot_from Table.spot_of Rules.rule_a Rules.challenged Rules.query Rules.rule_b Rules.rule_c
    Rules.due_row Rules.rule_d Rules.room_of Rules.rule_e Rules.rule_f Rules.rule_g Rules.startup Rules.kept Rules.table_done
    Rules.record_done Rules.table_byte Rules.table_bytes Rules.record_bytes Rules.fed Rules.spanned Rules.whole
    Rules.rule_h Rules.grouping Command.walk Command.ready Command.the_end Command.command Events.is_name Events.name_fci
    Events.full_fci Events.names_in Events.install_form Events.selectable_form Events.installing Events.making_selectable
    Events.install Events.invalidated Events.select Events.lock Events.unlock Events.deselect Events.foreign
    Events.answer_to Events.errs Events.store_data Events.stuck Events.personalizing Events.otherwise Events.event
    Sound.secrets_ok Sound.sound_with Session.fresh_of Session.turn_of Session.play_of Session.records_in Session.after
    Session.run_from Session.run_of Session.shown_of Order.complete Order.single Order.units_in Order.packed Order.cut_of
    Order.stored_all Order.records_for Order.write_of Order.pull_of Lines.line_with Lines.end_of Lines.lines_from
    Lines.replay_of Scenes.chip Scenes.blank_card Scenes.install_data Scenes.selectable_data Scenes.turns_from Scenes.turns
    Scenes.words_in Scenes.end_or Scenes.end_of Scenes.holds Scenes.all_hold Scenes.shows Scenes.records_of
computed = tt
