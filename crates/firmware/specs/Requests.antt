-- The masters' requests as C passes them: a number that names no task or command makes a request that is outside (7).
use Rattle.std.specs.Prelude.{ℕ, leb, eqb}
use Rattle.wire.specs.Choose.{choose}
use Rattle.wire.specs.Word.{minus}
use Rattle.lecom_master.specs.declared.request.Task.{Task as LecomTask}
use Rattle.lecom_master.specs.declared.request.Task.TheVariants.{Read as LecomRead, Write as LecomWrite}
use Rattle.lecom_master.specs.declared.request.Request.{Request as LecomRequest}
use Rattle.love_master.specs.declared.request.Task.{Task as LoveTask}
use Rattle.love_master.specs.declared.request.Task.TheVariants.{Status as LoveStatus, Read as LoveRead, Write as LoveWrite}
use Rattle.love_master.specs.declared.request.Request.{Request as LoveRequest}
use Rattle.lucid_master.specs.declared.request.Command.{Command}
use Rattle.lucid_master.specs.declared.request.Command.TheVariants.{GetIo, GetIoGroup, SetIo, SetIoGroup, GetParam, SetParam, Reset}
use Rattle.lucid_master.specs.declared.request.Request.{Request as LucidRequest}

-- the largest word: no code, place or channel
abbrev pub nowhere : ℕ
nowhere = minus 1

-- include/nakshvilor.h: the tasks
abbrev pub read_in_c : ℕ
read_in_c = 0

abbrev pub write_in_c : ℕ
write_in_c = 1

abbrev pub status_in_c : ℕ
status_in_c = 2

unfoldable pub lecom_task : ℕ → ℕ → ℕ → LecomTask
lecom_task task code value =
    choose (eqb task read_in_c) (LecomRead code)
    (choose (eqb task write_in_c) (LecomWrite code value)
    (LecomRead nowhere))

abbrev pub lecom_request : ℕ → ℕ → ℕ → ℕ → LecomRequest
lecom_request address task code value = record { address = address; task = lecom_task task code value }

unfoldable pub love_task : ℕ → ℕ → ℕ → LoveTask
love_task task place value =
    choose (eqb task read_in_c) (LoveRead place)
    (choose (eqb task write_in_c) (LoveWrite place value)
    (choose (eqb task status_in_c) LoveStatus
    (LoveRead nowhere)))

abbrev pub love_request : ℕ → ℕ → ℕ → ℕ → LoveRequest
love_request address task place value = record { address = address; task = love_task task place value }

-- the commands
abbrev pub command_code_of : Command → ℕ
command_code_of GetIo = 0
command_code_of GetIoGroup = 1
command_code_of SetIo = 2
command_code_of SetIoGroup = 3
command_code_of GetParam = 4
command_code_of SetParam = 5
command_code_of Reset = 6

unfoldable pub command_of : ℕ → Command
command_of code =
    choose (eqb code (command_code_of GetIoGroup)) GetIoGroup
    (choose (eqb code (command_code_of SetIo)) SetIo
    (choose (eqb code (command_code_of SetIoGroup)) SetIoGroup
    (choose (eqb code (command_code_of GetParam)) GetParam
    (choose (eqb code (command_code_of SetParam)) SetParam
    (choose (eqb code (command_code_of Reset)) Reset
    GetIo)))))

abbrev pub last_command : ℕ
last_command = 6

unfoldable pub lucid_request : ℕ → ℕ → ℕ → ℕ → LucidRequest
lucid_request command p1 p2 address =
    record { command = command_of command; p1 = choose (leb command last_command) p1 nowhere; p2 = p2; address = address }
