-- What the messages of the stream ask.
use Rattle.std.proofs.Common.{◌≡◌, ℕ, zero, suc, ◌*◌, ◌≤◌, ◌%◌, ◌/◌, Bool, true, false, List, [], ◌∷◌, ◌++◌, length, length-append, append-nil, decimal, codes, map, Some, Ok, inl, refl, sym, ap, ◌∙◌, subst, arith, le-leb}
use Rattle.std.specs.Prelude.{◌==◌, filter, if◌then◌else◌}
use Rattle.std.specs.List.{flat_map, AllZip}
use Rattle.std.specs.Str.{is_utf8}
use Rattle.std.proofs.lemmas.List.{map-append}
use Rattle.std.proofs.lemmas.List.Elements.{filter-append}
use Rattle.serde_json.specs.Data.{Data, string}
use Rattle.serde_json.specs.Read.{read}
use Rattle.serde_json.specs.Written.{compact_text}
use Rattle.uuid.proofs.OnLiterals.{uuid_on_literals}
use Rattle.jupyter_frames.specs.Framing.{frame, Cutting}
use Rattle.session_core.specs.declared.request.Channel.TheVariants.{Shell}
use Rattle.session_core.specs.declared.request.Ask.TheVariants.{Execute, Migrate}
use Rattle.session_core.specs.declared.request.Request.{Request}
use Rattle.session_core.specs.Asks.{is_control}
use Rattle.jupyter_messages.specs.declared.message.Message.{Message}
use Rattle.jupyter_messages.specs.declared.message.MessageKind.TheVariants.{Open, Ask as Asking}
use Rattle.jupyter_messages.specs.Reading.{member, of_kind, text_of, short_text, required_text, optional_text, optional_bool, optional_object, whole_number, required_number, required_object, required_long_text, header_of, channel_named, channel_of, kernel_named, kernel_of, open_of, execute_of, migrate_of, type_named, channel_for, whole_of, message_of, json_in, message_in}
use Rattle.reply_frames.specs.Messages.{json as json_of, whole}
use Rattle.node_intake.specs.Intake.{Taken, Node, most_requests, control_requests}
use Rattle.node_run.specs.declared.end.RunEnd.TheVariants.{Whole}
use Rattle.node_run.specs.Streams.{IsNodeOf}
use Rattle.unmoved_sessions.specs.Streams.{Asks, AreBodiesOf}
use Rattle.unmoved_sessions.proofs.Streaming.{node_is}
use Rattle.made_command.specs.Asked.{kernel, header, cell_request, move_request, requested, requests, session, IsAlone}
use Rattle.made_command.specs.Made.{session_of, code_of, message, opening, cell, moving, asked, sent, stream}
use Rattle.made_command.proofs.Short.{costs, number_short, session_short}
use Rattle.made_command.proofs.Returned.{opening_back, cell_back, move_back, opening_text, cell_text, move_text}
use Rattle.made_command.proofs.Frames.{sent_bodies}
use Rattle.made_command.proofs.Ending.{stream_framed}

-- ---- a message

asks_opening : (session id : List ℕ) → length session ≤ 256 → length id ≤ 256
    → message_of (message session id (codes "kernel_open_request") (json_of ((codes "host", whole 0) ∷ []))) ≡ Ok (record { header = header session id (codes "kernel_open_request"); channel = Shell; kernel = kernel; kind = Open 0 })
unfolding uuid_on_literals message member of_kind text_of short_text required_text optional_text whole_number required_number required_object required_long_text header_of channel_named channel_of kernel_named kernel_of open_of type_named channel_for whole_of message_of
asks_opening session id one two = rw (le-leb (length id) 256 two, le-leb (length session) 256 one)

asks_cell : (session id code : List ℕ) → length session ≤ 256 → length id ≤ 256
    → message_of (message session id (codes "execute_request") (json_of ((codes "code", string code) ∷ []))) ≡ Ok (record { header = header session id (codes "execute_request"); channel = Shell; kernel = kernel; kind = Asking (Execute code false true) })
unfolding uuid_on_literals message member of_kind text_of short_text required_text optional_text optional_bool optional_object required_object required_long_text header_of channel_named channel_of kernel_named kernel_of execute_of type_named channel_for whole_of message_of
asks_cell session id code one two = rw (le-leb (length id) 256 two, le-leb (length session) 256 one)

asks_move : (session id : List ℕ) (to : ℕ) → length session ≤ 256 → length id ≤ 256 → message_of (message session id (codes "migrate_request") (costs to))
    ≡ Ok (record { header = header session id (codes "migrate_request"); channel = Shell; kernel = kernel; kind = Asking (Migrate to (record { copy_base = 1; per_byte = 1; run_base = 1; per_step = 1 })) })
unfolding uuid_on_literals message member of_kind text_of short_text required_text optional_text whole_number required_number required_object required_long_text header_of channel_named channel_of kernel_named kernel_of migrate_of type_named channel_for whole_of message_of
asks_move session id to one two = rw (le-leb (length id) 256 two, le-leb (length session) 256 one)

-- what is written for a message reads as what the message says
read_as : (d : Data) (m : Message) → is_utf8 (compact_text d) ≡ true → read (compact_text d) ≡ Some d → message_of d ≡ Ok m → message_in (compact_text d) ≡ Ok m
unfolding message_in json_in
read_as d m text back is = rw (text, back) is

pub opening_asks : message_in (compact_text opening) ≡ Ok (record { header = header (codes "f1") (codes "o") (codes "kernel_open_request"); channel = Shell; kernel = kernel; kind = Open 0 })
unfolding opening
opening_asks = read_as opening _ opening_text opening_back (asks_opening (codes "f1") (codes "o") (omega arith) (omega arith))

pub cell_asks : (j : ℕ) → j ≤ 4000 → message_in (compact_text (cell j)) ≡ Ok (record { header = header (session_of j) (codes "c" ++ decimal j) (codes "execute_request"); channel = Shell; kernel = kernel; kind = Asking (Execute (code_of j) false true) })
unfolding cell
cell_asks j small =
    let id = number_short j small in
    let session = session_short j in
    read_as (cell j) _ (cell_text j small) (cell_back j small) (asks_cell (session_of j) (codes "c" ++ decimal j) (code_of j) (omega (arith, session)) (omega (arith, id)))

pub move_asks : (j : ℕ) → j ≤ 4000 → message_in (compact_text (moving j))
    ≡ Ok (record { header = header (codes "f1") (codes "m" ++ decimal j) (codes "migrate_request"); channel = Shell; kernel = kernel; kind = Asking (Migrate (j / 4 % 3) (record { copy_base = 1; per_byte = 1; run_base = 1; per_step = 1 })) })
unfolding moving
move_asks j small =
    let id = number_short j small in
    read_as (moving j) _ (move_text j small) (move_back j small) (asks_move (codes "f1") (codes "m" ++ decimal j) (j / 4 % 3) (omega arith) (omega (arith, id)))

-- ---- all of them

zip_both : {X Y : Type 0} (R : X → Y → Type 0) (xs zs : List X) (ys ws : List Y) → AllZip R xs ys → AllZip R zs ws → AllZip R (xs ++ zs) (ys ++ ws)
zip_both R [] zs [] ws one two = two
zip_both R [] zs (y ∷ ys) ws one two = absurd one
zip_both R (x ∷ xs) zs [] ws one two = absurd one
zip_both R (x ∷ xs) zs (y ∷ ys) ws one two = (one.0, zip_both R xs zs ys ws one.1 two)

more_bodies : (s : Taken) (bodies more : List (List ℕ)) (rs : List Request) → AreBodiesOf s bodies → AllZip (Asks s.kernel) more rs → AreBodiesOf (record s { requests = s.requests ++ rs }) (bodies ++ more)
more_bodies s [] more rs are also = absurd are
more_bodies s (body ∷ bodies) more rs are also = (are.0, zip_both (Asks s.kernel) bodies more s.requests rs are.1 also)

either_asks : (b : Bool) (j : ℕ) → j ≤ 4000 → AllZip (Asks kernel) (map compact_text (cell j ∷ (if b then moving j ∷ [] else []))) (cell_request j ∷ (if b then move_request j ∷ [] else []))
either_asks true j small = ((cell_asks j small, refl), ((move_asks j small, refl), tt))
either_asks false j small = ((cell_asks j small, refl), tt)

asked_asks : (j : ℕ) → j ≤ 4000 → AllZip (Asks kernel) (map compact_text (asked j)) (requested j)
unfolding asked requested
asked_asks j small = either_asks (j % 4 == 0) j small

-- the messages open the session and ask its requests
sent_asks : (n : ℕ) → n ≤ 4000 → AreBodiesOf (session n) (map compact_text (sent n))
unfolding sent requests
sent_asks zero small = (opening_asks, tt)
sent_asks (suc before) small =
    let fewer : before ≤ 4000 = omega arith in
    subst (AreBodiesOf (session (suc before))) (sym (map-append compact_text (sent before) (asked (suc before))))
    (more_bodies (session before) (map compact_text (sent before)) (map compact_text (asked (suc before))) (requested (suc before)) (sent_asks before fewer) (asked_asks (suc before) small))

either_few : (b : Bool) (j : ℕ) → length (cell_request j ∷ (if b then move_request j ∷ [] else [])) ≤ 2
either_few true j = omega arith
either_few false j = omega arith

requested_few : (j : ℕ) → length (requested j) ≤ 2
unfolding requested
requested_few j = either_few (j % 4 == 0) j

requests_few : (n : ℕ) → length (requests n) ≤ 2 * n
unfolding requests
requests_few zero = omega arith
requests_few (suc before) = omega (arith, length-append (requests before) (requested (suc before)), requests_few before, requested_few (suc before))

-- none of them comes on control
either_shell : (b : Bool) (j : ℕ) → filter is_control (cell_request j ∷ (if b then move_request j ∷ [] else [])) ≡ []
either_shell true j = refl
either_shell false j = refl

requested_shell : (j : ℕ) → filter is_control (requested j) ≡ []
unfolding requested
requested_shell j = either_shell (j % 4 == 0) j

pub all_shell : (n : ℕ) → control_requests (session n) ≡ []
unfolding requests
all_shell zero = refl
all_shell (suc before) = filter-append is_control (requests before) (requested (suc before)) ∙ (ap (λ rs. rs ++ filter is_control (requested (suc before))) (all_shell before) ∙ requested_shell (suc before))

-- ---- the node

cutting : (n : ℕ) → n ≤ 4000 → Cutting (stream n)
cutting n small = record {
  bodies = map compact_text (sent n);
  rest = [];
  are_bodies = sent_bodies n small;
  is_rest = inl (inl (omega arith));
  is_stream = sym (stream_framed n) ∙ sym (append-nil (flat_map frame (map compact_text (sent n))));
}

pub node_alone : (n : ℕ) (node : Node) → n ≤ 4000 → IsNodeOf 3 Whole (stream n) (Some []) node → IsAlone n node
unfolding cutting
node_alone n node small is =
    let few : length (requests n) ≤ most_requests = omega (arith, requests_few n) in
    node_is 3 Whole (stream n) (Some []) node (cutting n small) is (session n) (sent_asks n small) (omega arith) few
