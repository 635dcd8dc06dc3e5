-- To unfold `computed` is to unfold every definition of the masters' written meanings and of the card's, for what is computed. Assumes nothing.
use Rattle.std.proofs.Common.{◌≡◌, true, arith}
use Prim.{Unit, tt}
use Rattle.wire.specs.Word.{word_values}
use Rattle.wire.proofs.Computed as wire
use Rattle.figures.proofs.Computed as figures
use Rattle.card.proofs.Computed as card
use Rattle.lecom.proofs.Computed as lecom
use Rattle.love.proofs.Computed as love
use Rattle.lucid.proofs.Computed as lucid
use Rattle.asking.specs.Hearing.{heard_by}
use Rattle.asking.specs.Against.{alike, against}
use Rattle.asking.specs.Steps.{is_temperature}
use Rattle.asking.specs.Claims.{Dialect, Askable, no_higher, no_later}
use Rattle.asking.proofs.Cards.{every, every_at}
use Rattle.lecom_master.specs.Request as lecom-request
use Rattle.lecom_master.specs.Heard as lecom-heard
use Rattle.love_master.specs.Request as love-request
use Rattle.love_master.specs.Heard as love-heard
use Rattle.lucid_master.specs.Request as lucid-request
use Rattle.lucid_master.specs.Heard as lucid-heard
use Rattle.masters.specs.Lecom as lecom-master
use Rattle.masters.specs.Love as love-master
use Rattle.masters.specs.Lucid as lucid-master

-- of all dialects
unfoldable pub shared_computed : Unit {0}
unfolding wire.computed figures.computed card.computed heard_by alike against is_temperature no_higher no_later
shared_computed = tt

-- of LECOM
unfoldable pub lecom_computed : Unit {0}
unfolding shared_computed lecom.computed lecom-request.is_collective lecom-request.address_right lecom-request.task_right lecom-request.askable lecom-request.body lecom-request.checked lecom-request.task_bytes lecom-request.made lecom-heard.answerable lecom-heard.answer_bytes lecom-heard.data_read lecom-heard.heard_value lecom-heard.heard_task lecom-heard.read_of lecom-heard.is_unknown lecom-heard.unknown_code lecom-heard.is_refusal lecom-heard.heard lecom-master.numbers_in lecom-master.order_of lecom-master.addresses lecom-master.asked_of lecom-master.heard_reading lecom-master.held_by lecom-master.answer_to lecom-master.checks_in
lecom_computed = tt

-- of Love
unfoldable pub love_computed : Unit {0}
unfolding shared_computed love.computed love-request.task_right love-request.askable love-request.half_of love-request.data_of love-request.body love-request.made love-heard.is_code love-heard.is_refusal love-heard.heard_data love-heard.status_word love-heard.heard_status love-heard.value_word love-heard.heard_value love-heard.heard_task love-heard.heard love-master.asked_of
love_computed = tt

-- of LucidControl
unfoldable pub lucid_computed : Unit {0}
unfolding shared_computed lucid.computed lucid-request.opc_of lucid-request.p1_right lucid-request.p2_right lucid-request.address_right lucid-request.count_of lucid-request.all_demands lucid-request.values_right lucid-request.askable lucid-request.demand_bytes lucid-request.data_of lucid-request.made lucid-heard.is_status lucid-heard.shaped lucid-heard.word_of lucid-heard.answerable lucid-heard.values_from lucid-heard.all_answerable lucid-heard.heard_values lucid-heard.heard_parameter lucid-heard.heard_done lucid-heard.heard_command lucid-heard.heard lucid-master.demands_from lucid-master.demands_in lucid-master.asked_in lucid-master.order_of lucid-master.demands_of lucid-master.asked_of lucid-master.temperature_word lucid-master.reading_word lucid-master.word_in lucid-master.said_by lucid-master.answer_to lucid-master.answer_of lucid-master.refusal_in
lucid_computed = tt

-- a request that 7 does not refuse, by its tests
pub askable_by : (d : Dialect) (q : d.Request) → d.askable q ≡ true → every word_values (d.numbers q) ≡ true → Askable d q
askable_by d q right words = record { right = right; words = every_at word_values (d.numbers q) (omega arith) words }
