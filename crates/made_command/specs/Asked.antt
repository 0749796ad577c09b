-- What the messages of the stream ask: one session is opened, and its cells and moves come on shell.
use Rattle.std.specs.Prelude.{◌≡◌, ℕ, zero, suc, ◌+◌, ◌*◌, ◌^◌, ◌/◌, ◌%◌, ◌==◌, true, false, List, [], ◌∷◌, ◌++◌, codes, if◌then◌else◌}
use Rattle.std.specs.Fmt.{decimal}
use Rattle.session_core.specs.declared.request.Header.{Header}
use Rattle.session_core.specs.declared.request.Channel.TheVariants.{Shell}
use Rattle.session_core.specs.declared.request.Ask.{Ask}
use Rattle.session_core.specs.declared.request.Ask.TheVariants.{Execute, Migrate}
use Rattle.session_core.specs.declared.request.Request.{Request}
use Rattle.node_intake.specs.Intake.{Taken, Node}
use Rattle.made_command.specs.Made.{code_of, session_of}

-- the number of the kernel: 00000000-0000-4000-8000-000000000001
abbrev pub kernel : ℕ
kernel = 16384 * 2 ^ 64 + (32768 * 2 ^ 48 + 1)

abbrev pub header : List ℕ → List ℕ → List ℕ → Header
header session id type = record { msg_id = id; username = codes "made"; session = session; date = []; msg_type = type; version = codes "5.3" }

abbrev pub request : List ℕ → List ℕ → List ℕ → Ask → Request
request session id type ask = record { header = header session id type; channel = Shell; frontend = 0; ask = ask }

-- a cell that is stored and not silent
abbrev pub cell_request : ℕ → Request
cell_request j = request (session_of j) (codes "c" ++ decimal j) (codes "execute_request") (Execute (code_of j) false true)

abbrev pub move_request : ℕ → Request
move_request j = request (codes "f1") (codes "m" ++ decimal j) (codes "migrate_request") (Migrate (j / 4 % 3) (record { copy_base = 1; per_byte = 1; run_base = 1; per_step = 1 }))

-- cell j, and the move after it if j is a multiple of 4
unfoldable pub requested : ℕ → List Request
requested j = cell_request j ∷ (if j % 4 == 0 then move_request j ∷ [] else [])

-- up to cell n
unfoldable pub requests : ℕ → List Request
requests zero = []
requests (suc before) = requests before ++ requested (suc before)

-- the session, on host 0
abbrev pub session : ℕ → Taken
session n = record { kernel = kernel; host = 0; request = header (codes "f1") (codes "o") (codes "kernel_open_request"); channel = Shell; requests = requests n }

-- it is the one session, and there is no error
abbrev pub IsAlone : ℕ → Node → Type 0
IsAlone n node = node ≡ record { sessions = session n ∷ []; errors = [] }
