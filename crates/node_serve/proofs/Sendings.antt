-- A link is sent one unit more.
use Rattle.std.proofs.Common.{◌≡◌, ℕ, ◌≤◌, Bool, true, false, List, [], ◌∷◌, ◌++◌, Option, Some, None, ◌⊎◌, inl, inr, refl, sym, ap, ◌∙◌, subst, append_assoc, append-nil, arith}
use Rattle.nb_outside.specs.Counts.{HasRisen}
use Rattle.nb_links.specs.Lines.{Line, Adds, Gives}
use Rattle.node_serve.specs.Interleaving.{Interleaves, IsPutTo, AreFronts}
use Rattle.node_serve.specs.Units.{joined, AllOf, FrontOf}
use Rattle.node_serve.specs.Sent.{AddsFront, WentOn, Wire, Says, Tells, TellsFront, TellsWhile, Sends, IsSending, HasSentFront, SendsWhile, SendsOn}
use Rattle.node_serve.proofs.Interleaving.{goes_on}
use Rattle.node_serve.proofs.Fronts.{put_at, goes_on_to_the_end, fronts_all, fronts_at}
use Rattle.node_serve.proofs.Pieces.{sent_none}

-- ---- units

joined_more : (units : List (List ℕ)) (u : List ℕ) → joined (units ++ u ∷ []) ≡ joined units ++ u
joined_more [] u = append-nil u
joined_more (v ∷ units) u = ap (λ z. v ++ z) (joined_more units u) ∙ sym (append_assoc v (joined units) u)

all_more : (lists later : List (List (List ℕ))) (sent u : List ℕ) → IsPutTo lists u later → AllOf lists sent → AllOf later (sent ++ u)
all_more lists later sent u put all = (all.0 ++ u ∷ [], goes_on lists later all.0 u all.1 put, ap (λ z. z ++ u) all.2 ∙ sym (joined_more all.0 u))

front_more : (lists later : List (List (List ℕ))) (sent u : List ℕ) → IsPutTo lists u later → FrontOf lists sent → FrontOf later sent
front_more lists later sent u put front = (front.0 ++ u, subst (AllOf later) (append_assoc sent front.0 u) (all_more lists later (sent ++ front.0) u put front.1))

all_cut : (lists later : List (List (List ℕ))) (sent u front back : List ℕ) → IsPutTo lists u later → AllOf lists sent → u ≡ front ++ back → FrontOf later (sent ++ front)
all_cut lists later sent u front back put all parts =
    (back, subst (AllOf later) (ap (λ z. sent ++ z) parts ∙ sym (append_assoc sent front back)) (all_more lists later sent u put all))

pub front_of_all : (lists : List (List (List ℕ))) (sent : List ℕ) → AllOf lists sent → FrontOf lists sent
front_of_all lists sent all = ([], subst (AllOf lists) (sym (append-nil sent)) all)

-- ---- lines

pub went_none : (line : Option Line) → WentOn line line [] []
went_none None = refl
went_none (Some line) = (line.left, refl, ap (λ (l : Line). Some l) (ap (λ g. let l : Line = record line { gave = g } in l) (sym (append-nil line.gave)) ∙ ap (λ s. let l : Line = record { gave = line.gave ++ []; left = line.left; sent = s } in l) (sym (append-nil line.sent))))

sent_more : (start old new : Option Line) (taken sent u : List ℕ) → WentOn start old taken sent → Adds old new u → WentOn start new taken (sent ++ u)
sent_more None old new taken sent u went adds = subst (λ line. Adds line new u) went adds
sent_more (Some line) old new taken sent u (rest, parts, is) adds =
    (rest, parts, subst (λ l. Adds l new u) is adds ∙ ap (λ s. let l : Line = record { gave = line.gave ++ taken; left = rest; sent = s } in Some l) (append_assoc line.sent sent u))

taken_more : (start old new : Option Line) (taken sent piece : List ℕ) → WentOn start old taken sent → Gives old new piece → WentOn start new (taken ++ piece) sent
taken_more None old new taken sent piece went gives = subst (λ line. Gives line new piece) went gives
taken_more (Some line) old new taken sent piece (rest, parts, is) gives =
    let g = subst (λ l. Gives l new piece) is gives in
    (g.0, parts ∙ ap (λ z. taken ++ z) g.1 ∙ sym (append_assoc taken piece g.0), g.2 ∙ ap (λ z. let l : Line = record { gave = z; left = g.0; sent = line.sent ++ sent } in Some l) (append_assoc line.gave taken piece))

-- ---- one unit more

risen_on : (a b c : ℕ) → HasRisen a b → b ≤ c → HasRisen a c
risen_on a b c (inl h) stays = inl (omega arith)
risen_on a b c (inr h) stays = inr (omega arith)

risen_from : (a b c : ℕ) → a ≤ b → HasRisen b c → HasRisen a c
risen_from a b c stays (inl h) = inl (omega arith)
risen_from a b c stays (inr h) = inr h

record SaysMore (start new : Option Line) (taken : List ℕ) (cut : Bool) (later : List (List (List ℕ))) : Type 0 where
  sent : List ℕ
  went : WentOn start new taken sent
  sends : Sends cut later sent

says_more : (cut next : Bool) (start old new : Option Line) (taken sent u : List ℕ) (lists later : List (List (List ℕ))) → WentOn start old taken sent → Sends cut lists sent → IsPutTo lists u later → Says cut next old new u
    → SaysMore start new taken next later
says_more true true start old new taken sent u lists later went sends put (is, same) =
    record { sent = sent; went = subst (λ l. WentOn start l taken sent) (sym same) went; sends = front_more lists later sent u put sends }
says_more true false start old new taken sent u lists later went sends put (is, same) = cc
says_more false true start old new taken sent u lists later went sends put (front, back, parts, adds) =
    record { sent = sent ++ front; went = sent_more start old new taken sent front went adds; sends = all_cut lists later sent u front back put sends parts }
says_more false false start old new taken sent u lists later went sends put adds =
    record { sent = sent ++ u; went = sent_more start old new taken sent u went adds; sends = all_more lists later sent u put sends }

still_cut : (cut next : Bool) (old new : Option Line) (u : List ℕ) → Says cut next old new u → cut ≡ true → next ≡ true
still_cut true next old new u says is = says.0
still_cut false next old new u says is = cc

risen_more : (a b c : ℕ) (cut next : Bool) → (next ≡ true → (cut ≡ true) ⊎ HasRisen b c) → (cut ≡ true → HasRisen a b) → a ≤ b → b ≤ c → next ≡ true → HasRisen a c
risen_more a b c cut next risen before first then is = elim (risen is) [ inl was ↦ risen_on a b c (before was) then | inr now ↦ risen_from a b c first now ]

pub tells_more : (start old new : Wire) (taken u : List ℕ) (lists later : List (List (List ℕ))) → Tells old new u → IsPutTo lists u later → IsSending start old taken lists → IsSending start new taken later
tells_more start old new taken u lists later t put s =
    let m = says_more old.cut new.cut start.line old.line new.line taken s.sent u lists later s.went s.sends put t.says in
    record {
      sent = m.sent;
      went = m.went;
      sends = m.sends;
      stays = let p = s.stays in let q = t.stays in omega arith;
      risen = risen_more start.faults old.faults new.faults old.cut new.cut t.risen s.risen s.stays t.stays;
      kept = λ is. still_cut old.cut new.cut old.line new.line u t.says (s.kept is);
    }

-- ---- memory runs out

front_of_sends : (cut : Bool) (lists : List (List (List ℕ))) (sent : List ℕ) → Sends cut lists sent → FrontOf lists sent
front_of_sends true lists sent front = front
front_of_sends false lists sent all = front_of_all lists sent all

pub front_sent : (start now : Wire) (taken : List ℕ) (lists : List (List (List ℕ))) → IsSending start now taken lists → HasSentFront start now taken lists
front_sent start now taken lists s = record { sent = s.sent; went = s.went; front = front_of_sends now.cut lists s.sent s.sends; stays = s.stays }

pub sends_front : (suffices : Bool) (start now : Wire) (taken : List ℕ) (lists : List (List (List ℕ))) → SendsWhile suffices start now taken lists → HasSentFront start now taken lists
sends_front true start now taken lists s = front_sent start now taken lists s
sends_front false start now taken lists s = s

-- perhaps the first bytes of a unit more
pub tells_first : (start old new : Wire) (taken u : List ℕ) (lists later : List (List (List ℕ))) → TellsFront old new u → IsPutTo lists u later → IsSending start old taken lists → HasSentFront start new taken later
tells_first start old new taken u lists later t put s =
    let m = says_more old.cut true start.line old.line new.line taken s.sent u lists later s.went s.sends put t.says in
    record { sent = m.sent; went = m.went; front = m.sends; stays = let p = s.stays in let q = t.stays in omega arith }

tells_while : (suffices : Bool) (start old new : Wire) (taken u : List ℕ) (lists later : List (List (List ℕ))) → TellsWhile suffices old new u → IsPutTo lists u later → IsSending start old taken lists → SendsWhile suffices start new taken later
tells_while true start old new taken u lists later t put s = tells_more start old new taken u lists later t put s
tells_while false start old new taken u lists later t put s = tells_first start old new taken u lists later t put s

joined_both : (units more : List (List ℕ)) → joined (units ++ more) ≡ joined units ++ joined more
joined_both [] more = refl
joined_both (u ∷ units) more = ap (λ z. u ++ z) (joined_both units more) ∙ sym (append_assoc u (joined units) (joined more))

front_on : (lists longer : List (List (List ℕ))) (sent : List ℕ) → AreFronts lists longer → FrontOf lists sent → FrontOf longer sent
front_on lists longer sent fronts front =
    let units = front.1.0 in
    let more = goes_on_to_the_end lists longer units fronts front.1.1 in (
      front.0 ++ joined more.0,
      (
        units ++ more.0,
        more.1,
        sym (append_assoc sent front.0 (joined more.0)) ∙ ap (λ z. z ++ joined more.0) front.1.2 ∙ sym (joined_both units more.0),
      ),
    )

-- what is the front of these lists is the front of those with more at their ends
pub front_longer : (start now : Wire) (taken : List ℕ) (lists longer : List (List (List ℕ))) → AreFronts lists longer → HasSentFront start now taken lists → HasSentFront start now taken longer
front_longer start now taken lists longer fronts s = record { sent = s.sent; went = s.went; front = front_on lists longer s.sent fronts s.front; stays = s.stays }

-- ---- one of the lists goes on

put_more : (lists others : List (List (List ℕ))) (units later : List (List ℕ)) (u : List ℕ) → later ≡ units ++ u ∷ [] → IsPutTo (lists ++ units ∷ others) u (lists ++ later ∷ others)
put_more lists others units later u is = subst (λ z. IsPutTo (lists ++ units ∷ others) u (lists ++ z ∷ others)) (sym is) (put_at lists others units u)

-- by a unit
pub unit_told : (suffices : Bool) (first old new : Wire) (from units later : List (List ℕ)) (u : List ℕ) → TellsWhile suffices old new u → later ≡ units ++ u ∷ [] → SendsOn true true first old from units → SendsOn true suffices first new from later
unit_told suffices first old new from units later u tells is on = λ start taken lists others s.
    tells_while suffices start old new taken u (lists ++ units ∷ others) (lists ++ later ∷ others) tells (put_more lists others units later u is) (on start taken lists others s)

-- by what wasn't sent
pub sends_longer : (before : Bool) (first now : Wire) (from units later : List (List ℕ)) → ((more : List (List ℕ)) × (later ≡ units ++ more)) → SendsOn before false first now from units → SendsOn before false first now from later
sends_longer before first now from units later goes on = λ start taken lists others s.
    front_longer start now taken (lists ++ units ∷ others) (lists ++ later ∷ others) (fronts_at lists others others units later goes (fronts_all others)) (on start taken lists others s)

pub sends_none : (before : Bool) (w : Wire) (units : List (List ℕ)) → SendsOn before before w w units units
sends_none before w units = λ start taken lists others s. s

pub sends_short : (w : Wire) (units : List (List ℕ)) → SendsOn true false w w units units
sends_short w units = λ start taken lists others s. front_sent start w taken (lists ++ units ∷ others) s

pub sends_as : (before then : Bool) (old new : Wire) (a b c d : List (List ℕ)) → a ≡ b → c ≡ d → SendsOn before then old new b c → SendsOn before then old new a d
sends_as before then old new a b c d from to on =
    subst (λ z. SendsOn before then old new z d) (sym from) (subst (λ z. SendsOn before then old new b z) to on)

-- ---- bytes come

pub taken_on : (start old new : Wire) (taken piece : List ℕ) (lists : List (List (List ℕ))) → Gives old.line new.line piece → old.faults ≤ new.faults → new.cut ≡ old.cut → IsSending start old taken lists
    → IsSending start new (taken ++ piece) lists
taken_on start old new taken piece lists gives stays same s = record {
  sent = s.sent;
  went = taken_more start.line old.line new.line taken s.sent piece s.went gives;
  sends = subst (λ b. Sends b lists s.sent) (sym same) s.sends;
  stays = let p = s.stays in omega arith;
  risen = λ is. risen_on start.faults old.faults new.faults (s.risen (sym same ∙ is)) stays;
  kept = λ is. same ∙ s.kept is;
}

pub same_on : (start old new : Wire) (taken : List ℕ) (lists : List (List (List ℕ))) → new.line ≡ old.line → old.faults ≤ new.faults → new.cut ≡ old.cut → IsSending start old taken lists → IsSending start new taken lists
same_on start old new taken lists line stays same s = record {
  sent = s.sent;
  went = subst (λ l. WentOn start.line l taken s.sent) (sym line) s.went;
  sends = subst (λ b. Sends b lists s.sent) (sym same) s.sends;
  stays = let p = s.stays in omega arith;
  risen = λ is. risen_on start.faults old.faults new.faults (s.risen (sym same ∙ is)) stays;
  kept = λ is. same ∙ s.kept is;
}

-- it is cut off at a fault
pub cut_on : (start old new : Wire) (taken : List ℕ) (lists : List (List (List ℕ))) → new.line ≡ old.line → old.faults ≤ new.faults → old.cut ≡ false → new.cut ≡ true → HasRisen old.faults new.faults → IsSending start old taken lists
    → IsSending start new taken lists
cut_on start old new taken lists line stays was is risen s = record {
  sent = s.sent;
  went = subst (λ l. WentOn start.line l taken s.sent) (sym line) s.went;
  sends = subst (λ b. Sends b lists s.sent) (sym is) (front_of_all lists s.sent (subst (λ b. Sends b lists s.sent) was s.sends));
  stays = let p = s.stays in omega arith;
  risen = λ now. risen_from start.faults old.faults new.faults s.stays risen;
  kept = λ now. is;
}

-- ---- other lists

all_as : (lists later : List (List (List ℕ))) (sent : List ℕ) → ((units : List (List ℕ)) → Interleaves lists units → Interleaves later units) → AllOf lists sent → AllOf later sent
all_as lists later sent turn all = (all.0, turn all.0 all.1, all.2)

cut_as : (cut : Bool) (lists later : List (List (List ℕ))) (sent : List ℕ) → ((units : List (List ℕ)) → Interleaves lists units → Interleaves later units) → Sends cut lists sent → Sends cut later sent
cut_as true lists later sent turn front = (front.0, all_as lists later (sent ++ front.0) turn front.1)
cut_as false lists later sent turn all = all_as lists later sent turn all

pub lists_as : (start now : Wire) (taken : List ℕ) (lists later : List (List (List ℕ))) → ((units : List (List ℕ)) → Interleaves lists units → Interleaves later units) → IsSending start now taken lists → IsSending start now taken later
lists_as start now taken lists later turn s =
    record { sent = s.sent; went = s.went; sends = cut_as now.cut lists later s.sent turn s.sends; stays = s.stays; risen = s.risen; kept = s.kept }

-- at the start nothing is sent
pub starts : (w : Wire) (lists : List (List (List ℕ))) → w.cut ≡ false → Interleaves lists [] → IsSending w w [] lists
starts w lists is empty = record {
  sent = [];
  went = went_none w.line;
  sends = subst (λ b. Sends b lists []) (sym is) ([], empty, refl);
  stays = omega arith;
  risen = λ cut. let never : false ≡ true = sym is ∙ cut in cc;
  kept = λ cut. cut;
}

-- the same since a start at which it was cut off only if it is now
pub since : (start now : Wire) (taken : List ℕ) (lists : List (List (List ℕ))) → IsSending start now taken lists → IsSending (record start { cut = now.cut }) now taken lists
since start now taken lists s = record { sent = s.sent; went = s.went; sends = s.sends; stays = s.stays; risen = s.risen; kept = λ is. is }

-- ---- what a send did

pub tells_none : (w : Wire) (bytes : List ℕ) → w.cut ≡ true → Tells w w bytes
tells_none w bytes is = record {
  says = subst (λ b. Says b b w.line w.line bytes) (sym is) (refl, refl);
  stays = omega arith;
  risen = λ cut. inl cut;
}

pub tells_all : (old new : Wire) (bytes : List ℕ) → old.cut ≡ false → new.cut ≡ false → Adds old.line new.line bytes → old.faults ≤ new.faults → Tells old new bytes
tells_all old new bytes was is adds stays = record {
  says = subst (λ b. Says b new.cut old.line new.line bytes) (sym was) (subst (λ b. Says false b old.line new.line bytes) (sym is) adds);
  stays = stays;
  risen = λ cut. let never : false ≡ true = sym is ∙ cut in cc;
}

pub tells_front : (old new : Wire) (bytes : List ℕ) → old.cut ≡ false → new.cut ≡ true → AddsFront old.line new.line bytes → old.faults ≤ new.faults → HasRisen old.faults new.faults → Tells old new bytes
tells_front old new bytes was is adds stays risen = record {
  says = subst (λ b. Says b new.cut old.line new.line bytes) (sym was) (subst (λ b. Says false b old.line new.line bytes) (sym is) adds);
  stays = stays;
  risen = λ cut. inr risen;
}

-- nothing is sent
says_none : (cut : Bool) (line : Option Line) (bytes : List ℕ) → Says cut true line line bytes
says_none true line bytes = (refl, refl)
says_none false line bytes = ([], bytes, refl, sent_none line)

pub front_none : (w : Wire) (bytes : List ℕ) → TellsFront w w bytes
front_none w bytes = record { says = says_none w.cut w.line bytes; stays = omega arith }

pub front_told : (old new : Wire) (bytes : List ℕ) → old.cut ≡ false → AddsFront old.line new.line bytes → old.faults ≤ new.faults → TellsFront old new bytes
front_told old new bytes was adds stays = record { says = subst (λ b. Says b true old.line new.line bytes) (sym was) adds; stays = stays }
