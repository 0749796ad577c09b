-- Lists of asks that go on.
use Rattle.std.proofs.Common.{◌≡◌, true, false, List, [], ◌∷◌, ◌++◌, refl, arith}
use Rattle.nb_outside.specs.declared.feed.Drawn.{Drawn}
use Rattle.run_graph.specs.RunLists.{ListedCell, IsRunList}
use Rattle.every_history.specs.Reading.{read}
use Rattle.replay_laws.proofs.GoingOn.{longer_list}
use Rattle.session_core.specs.declared.request.Ask.{Ask}
use Rattle.session_core.specs.declared.request.Ask.TheVariants.{Execute, Info, Complete, Shutdown, Migrate}
use Rattle.session_core.specs.Meanings.{Served, more, HasNoEnd}
use Rattle.notebook_meaning.specs.Cells.{cell_of, with_ask, cells_after, cells_of}
use Rattle.notebook_meaning.specs.Codes.{HasCode, HaveCodes}
use Rattle.notebook_meaning.specs.Lists.{MayServe, MayServeAll, EndsLast, IsRunOfAsks}
use Rattle.notebook_meaning.proofs.Recorded.{is_code}

abbrev one : Ask → List Drawn → Served
one ask draws = record { ask = ask; draws = draws }

cells_more : (cells : List ListedCell) (served : List Served) (ask : Ask) (draws : List Drawn) → cells_after cells (served ++ one ask draws ∷ []) ≡ with_ask (cells_after cells served) ask draws
cells_more cells [] ask draws = refl
cells_more cells (s ∷ served) ask draws = cells_more (with_ask cells s.ask s.draws) served ask draws

pub cells_of_more : (served : List Served) (ask : Ask) (draws : List Drawn) → cells_of (more served ask draws) ≡ with_ask (cells_of served) ask draws
cells_of_more served ask draws = cells_more [] served ask draws

all_more : (cells : List ListedCell) (served : List Served) (ask : Ask) (draws : List Drawn) → MayServeAll cells served → MayServe (cells_after cells served) ask draws
    → MayServeAll cells (served ++ one ask draws ∷ [])
all_more cells [] ask draws h k = (k, tt)
all_more cells (s ∷ served) ask draws h k = (h.0, all_more (with_ask cells s.ask s.draws) served ask draws h.1 k)

all_last : (cells : List ListedCell) (served : List Served) (ask : Ask) (draws : List Drawn) → MayServeAll cells (served ++ one ask draws ∷ []) → MayServe (cells_after cells served) ask draws
all_last cells [] ask draws h = h.0
all_last cells (s ∷ served) ask draws h = all_last (with_ask cells s.ask s.draws) served ask draws h.1

ends_more : (served : List Served) (s : Served) → HasNoEnd served → EndsLast (served ++ s ∷ [])
ends_more [] s h = tt
ends_more (a ∷ []) s h = (h.0, tt)
ends_more (a ∷ b ∷ served) s h = (h.0, ends_more (b ∷ served) s h.1)

pub goes_on : (served : List Served) (ask : Ask) (draws : List Drawn) → IsRunOfAsks served → HasNoEnd served → MayServe (cells_of served) ask draws → IsRunOfAsks (more served ask draws)
goes_on served ask draws run h may = record { all = all_more [] served ask draws run.all may; ends_last = ends_more served (one ask draws) h }

pub last_may : (served : List Served) (ask : Ask) (draws : List Drawn) → IsRunOfAsks (more served ask draws) → MayServe (cells_of served) ask draws
last_may served ask draws run = all_last [] served ask draws run.all

-- ---- the cells

pub codes_more : (cells : List ListedCell) (e : ListedCell) → HaveCodes cells → HasCode e → HaveCodes (cells ++ e ∷ [])
codes_more [] e h k = (k, tt)
codes_more (c ∷ cells) e h k = (h.0, codes_more cells e h.1 k)

pub codes_with : (cells : List ListedCell) (ask : Ask) (draws : List Drawn) → HaveCodes cells → MayServe cells ask draws → HaveCodes (with_ask cells ask draws)
codes_with cells (Execute code silent store) draws h k = codes_more cells (cell_of code silent store draws) h (is_code code k.0)
codes_with cells Info draws h k = h
codes_with cells (Complete code) draws h k = h
codes_with cells (Shutdown true) draws h k = tt
codes_with cells (Shutdown false) draws h k = h
codes_with cells (Migrate to weights) draws h k = absurd k

codes_after : (cells : List ListedCell) (served : List Served) → HaveCodes cells → MayServeAll cells served → HaveCodes (cells_after cells served)
codes_after cells [] h k = h
codes_after cells (s ∷ served) h k = codes_after (with_ask cells s.ask s.draws) served (codes_with cells s.ask s.draws h k.0) k.1

pub codes_of : (served : List Served) → IsRunOfAsks served → HaveCodes (cells_of served)
codes_of served run = codes_after [] served tt run.all

list_with : (cells : List ListedCell) (ask : Ask) (draws : List Drawn) → IsRunList read cells → MayServe cells ask draws → IsRunList read (with_ask cells ask draws)
list_with cells (Execute code silent store) draws h k = longer_list read cells (cell_of code silent store draws) h k.1.uses
list_with cells Info draws h k = h
list_with cells (Complete code) draws h k = h
list_with cells (Shutdown true) draws h k = λ c l. absurd (omega (arith, l))
list_with cells (Shutdown false) draws h k = h
list_with cells (Migrate to weights) draws h k = absurd k

list_after : (cells : List ListedCell) (served : List Served) → IsRunList read cells → MayServeAll cells served → IsRunList read (cells_after cells served)
list_after cells [] h k = h
list_after cells (s ∷ served) h k = list_after (with_ask cells s.ask s.draws) served (list_with cells s.ask s.draws h k.0) k.1

pub list_of : (served : List Served) → IsRunOfAsks served → IsRunList read (cells_of served)
list_of served run = list_after [] served (λ c l. absurd (omega (arith, l))) run.all
