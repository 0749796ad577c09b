-- What is said of an entry, in frames.
use Rattle.std.proofs.Common.{◌≡◌, ◌∙◌, ◌+◌, ℕ, [], ◌∷◌, Option, Some, None, List, refl, ap, sym, arith}
use Rattle.session_core.specs.declared.request.Header.{Header}
use Rattle.reply_frames.specs.Messages.{busy, idle}
use Rattle.reply_frames.specs.Frames.{Outgoing, kernel_name, frames, empty, say, say_all}
use Rattle.reply_frames.specs.Replies.{Answer, between, say_middle, answer_frames, answer_length, IsAnswered}
use Rattle.reply_frames.proofs.Saying.{say_both, said_bytes, said_running}

-- all that an answer says, between busy and idle
all_said : (a : Answer) (o : Outgoing) → say idle (say_middle (Some a) (say busy o)) ≡ say_all (between a.said) o
all_said a o = sym (say_both a.said (idle ∷ []) (say busy o))

some_same : {A : Type 0} (a b : A) → Some a ≡ Some b → a ≡ b
some_same a b e = cc

pub answer_bytes : (kernel first : ℕ) (name : List ℕ) (a : Option Answer) (request : Header) → IsAnswered a (Some request) → name ≡ kernel_name kernel
    → (say idle (say_middle a (say busy (empty name request first)))).bytes ≡ answer_frames kernel a first
answer_bytes kernel first name None request is named = absurd (cc)
answer_bytes kernel first name (Some a) request is named =
    let same : request ≡ a.request = some_same request a.request is in
    ap (λ (o : Outgoing). o.bytes) (all_said a (empty name request first)) ∙ said_bytes (between a.said) (empty name request first)
    ∙ ap (λ n. frames n request first (between a.said)) named ∙ ap (λ r. frames (kernel_name kernel) r first (between a.said)) same

pub answer_running : (first : ℕ) (name : List ℕ) (a : Option Answer) (request : Header) → IsAnswered a (Some request)
    → (say idle (say_middle a (say busy (empty name request first)))).running ≡ first + answer_length a
answer_running first name None request is = absurd (cc)
answer_running first name (Some a) request is =
    ap (λ (o : Outgoing). o.running) (all_said a (empty name request first)) ∙ said_running (between a.said) (empty name request first)

-- an entry that answers no request has no frames
pub none_bytes : (kernel first : ℕ) (a : Option Answer) → IsAnswered a None → [] ≡ answer_frames kernel a first
none_bytes kernel first None is = refl
none_bytes kernel first (Some a) is = absurd (cc)

pub none_running : (first : ℕ) (a : Option Answer) → IsAnswered a None → first ≡ first + answer_length a
none_running first None is = omega arith
none_running first (Some a) is = absurd (cc)
