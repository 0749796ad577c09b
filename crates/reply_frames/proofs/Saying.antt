-- Messages said one after the other.
use Rattle.std.proofs.Common.{◌≡◌, ◌∙◌, ◌+◌, ℕ, List, [], ◌∷◌, ◌++◌, length, refl, sym, ap, append_assoc, append-nil, arith}
use Rattle.serde_json.specs.Written.{compact_text}
use Rattle.session_core.specs.declared.request.Header.{Header}
use Rattle.reply_frames.specs.Messages.{Said}
use Rattle.reply_frames.specs.Frames.{Outgoing, message, frame, say, say_all, framed, frames}

pub say_both : (first second : List Said) (o : Outgoing) → say_all (first ++ second) o ≡ say_all second (say_all first o)
say_both [] second o = refl
say_both (said ∷ first) second o = say_both first second (say said o)

-- two lists and a message after them
pub say_three : (first second : List Said) (last : Said) (o one two three : Outgoing) → one ≡ say_all first o → two ≡ say_all second one
    → three ≡ say last two → three ≡ say_all (first ++ (second ++ last ∷ [])) o
say_three first second last o one two three is_one is_two is_three =
    is_three ∙ ap (say last) (is_two ∙ ap (say_all second) is_one)
    ∙ sym (say_both first (second ++ last ∷ []) o ∙ say_both second (last ∷ []) (say_all first o))

-- saying counts on
pub said_running : (all : List Said) (o : Outgoing) → (say_all all o).running ≡ o.running + length all
said_running [] o = omega arith
said_running (said ∷ more) o = let more_is = said_running more (say said o) in omega (arith, more_is)

-- it adds the frames
pub said_bytes : (all : List Said) (o : Outgoing) → (say_all all o).bytes ≡ o.bytes ++ frames o.kernel o.request o.running all
unfolding frames
said_bytes [] o = sym (append-nil _)
said_bytes (said ∷ more) o =
    said_bytes more (say said o) ∙ append_assoc o.bytes (framed o.kernel o.request o.running said) (frames o.kernel o.request (o.running + 1) more)

abbrev outgoing : List ℕ → Header → ℕ → List ℕ → Outgoing
outgoing kernel request running bytes = record { kernel = kernel; request = request; running = running; bytes = bytes }

-- what is in an outbox after one message more
pub one_said : (o : Outgoing) (said : Said) (next : ℕ) (text bytes : List ℕ) → text ≡ compact_text (message o.kernel o.request o.running said) → next ≡ o.running + 1
    → bytes ≡ o.bytes ++ frame text → outgoing o.kernel o.request next bytes ≡ say said o
unfolding framed
one_said o said next text bytes is_text is_next is_bytes =
    ap (λ n. outgoing o.kernel o.request n bytes) is_next ∙ ap (outgoing o.kernel o.request (o.running + 1)) (is_bytes ∙ ap (λ t. o.bytes ++ frame t) is_text)
