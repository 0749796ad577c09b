use Rattle.std.proofs.Common.{[], false, ap, length, sym, ◌∙◌, subst, List, ℕ}
use Rattle.node_serve.specs.declared.report.LinkReport.{LinkReport}
use Rattle.node_serve.specs.Sent.{wire, left_of}
use Rattle.node_serve.specs.Service.{IsFed, IsLeft}
use Rattle.node_serve.specs.Links.{HasServed, HasServedSoFar}
use Rattle.node_serve.proofs.Sendings.{went_none}
use Rattle.node_serve.proofs.Ending.{match_both, match_one, match_went, served_as, stopped_as, nothing_served}
use Rattle.node_serve.proofs.serve.serve_named.Goals as goal

pub close_fed-requires-clause-table : goal.close_fed-requires-clause-table
close_fed-requires-clause-table g c = (c.into_cells.ensures.table, ap length c.requires.queues.0 ∙ c.requires.queues.1)

pub close_fed-requires-clause-fed : goal.close_fed-requires-clause-fed
close_fed-requires-clause-fed g c =
    let m = g.E.Engine.meaning in
    let gives = g.Q.Feeds.gives c.args.feeds.now in
    let first = wire (g.L.Link.line c.args.link.now) (g.L.Link.faults c.args.link.now) false in
    let mid = wire (g.L.Link.line c.converse_beside_workers.new.link) (g.L.Link.faults c.converse_beside_workers.new.link) c.converse_beside_workers.new.is_cut in
    let f = c.in-Ok-converse_beside_workers.fed in
    let fed = subst (λ n. IsFed n g.N.Name.queues first mid f.sessions.items f.errors f.broken f.end f.told) (sym c.requires.hosts) c.in-Ok-converse_beside_workers.ensures.fed in
    (first, fed)

pub let_all_go-requires-clause-table : goal.let_all_go-requires-clause-table
let_all_go-requires-clause-table g c = (c.into_cells-in-Err-converse_beside_workers.ensures.table, ap length c.requires.queues.0 ∙ c.requires.queues.1)

pub let_all_go-requires-clause-left : goal.let_all_go-requires-clause-left
let_all_go-requires-clause-left g c =
    let m = g.E.Engine.meaning in
    let gives = g.Q.Feeds.gives c.args.feeds.now in
    let first = wire (g.L.Link.line c.args.link.now) (g.L.Link.faults c.args.link.now) false in
    let mid = wire (g.L.Link.line c.converse_beside_workers.new.link) (g.L.Link.faults c.converse_beside_workers.new.link) c.converse_beside_workers.new.is_cut in
    let os = c.in-Err-converse_beside_workers.sessions.items in
    let left = subst (λ n. IsLeft n g.N.Name.queues first mid os) (sym c.requires.hosts) c.in-Err-converse_beside_workers.ensures.fed in
    (first, left)

pub returns-in-Ok-converse_beside_workers-clause-told : goal.returns-in-Ok-converse_beside_workers-clause-told
returns-in-Ok-converse_beside_workers-clause-told g c =
    let m = g.E.Engine.meaning in
    let gives = g.Q.Feeds.gives c.args.feeds.now in
    let first = wire (g.L.Link.line c.args.link.now) (g.L.Link.faults c.args.link.now) false in
    let mid = wire (g.L.Link.line c.converse_beside_workers.new.link) (g.L.Link.faults c.converse_beside_workers.new.link) c.converse_beside_workers.new.is_cut in
    let now = wire (g.L.Link.line c.close_fed.new.link) (g.L.Link.faults c.close_fed.new.link) c.close_fed.new.is_cut in
    let f = c.in-Ok-converse_beside_workers.fed in
    let fed = subst (λ n. IsFed n g.N.Name.queues first mid f.sessions.items f.errors f.broken f.end f.told) (sym c.requires.hosts) c.in-Ok-converse_beside_workers.ensures.fed in
    match_went first now (λ (r : LinkReport g.row.E.Denot) (taken sent : List ℕ). HasServed m c.args.hosts gives r.end taken (left_of now.line) sent r.errors r.runs.items) (λ (taken sent : List ℕ). HasServedSoFar m c.args.hosts gives taken (left_of now.line) sent) c.close_fed.result
    (match_both c.close_fed.result (c.close_fed.ensures.told first fed) (λ r is. served_as m g.N.Name.hosts c.args.hosts g.N.Name.gives gives first now r.end r.errors r.runs.items c.requires.hosts c.requires.gives is)
    (λ is. stopped_as m g.N.Name.hosts c.args.hosts g.N.Name.gives gives first now c.requires.hosts c.requires.gives is))

pub returns-in-Ok-converse_beside_workers-clause-fault : goal.returns-in-Ok-converse_beside_workers-clause-fault
returns-in-Ok-converse_beside_workers-clause-fault g c =
    let m = g.E.Engine.meaning in
    let gives = g.Q.Feeds.gives c.args.feeds.now in
    let first = wire (g.L.Link.line c.args.link.now) (g.L.Link.faults c.args.link.now) false in
    let mid = wire (g.L.Link.line c.converse_beside_workers.new.link) (g.L.Link.faults c.converse_beside_workers.new.link) c.converse_beside_workers.new.is_cut in
    let f = c.in-Ok-converse_beside_workers.fed in
    let fed = subst (λ n. IsFed n g.N.Name.queues first mid f.sessions.items f.errors f.broken f.end f.told) (sym c.requires.hosts) c.in-Ok-converse_beside_workers.ensures.fed in
    match_both c.close_fed.result (c.close_fed.ensures.told first fed) (λ r is. is.fault) (λ is. tt)

pub returns-in-Ok-converse_beside_workers-clause-faults_stay : goal.returns-in-Ok-converse_beside_workers-clause-faults_stay
returns-in-Ok-converse_beside_workers-clause-faults_stay g c =
    let m = g.E.Engine.meaning in
    let gives = g.Q.Feeds.gives c.args.feeds.now in
    let first = wire (g.L.Link.line c.args.link.now) (g.L.Link.faults c.args.link.now) false in
    let mid = wire (g.L.Link.line c.converse_beside_workers.new.link) (g.L.Link.faults c.converse_beside_workers.new.link) c.converse_beside_workers.new.is_cut in
    let f = c.in-Ok-converse_beside_workers.fed in
    let fed = subst (λ n. IsFed n g.N.Name.queues first mid f.sessions.items f.errors f.broken f.end f.told) (sym c.requires.hosts) c.in-Ok-converse_beside_workers.ensures.fed in
    match_one c.close_fed.result (c.close_fed.ensures.told first fed) (λ r is. is.stays) (λ is. is.stays)

pub returns-in-Err-converse_beside_workers-clause-told : goal.returns-in-Err-converse_beside_workers-clause-told
returns-in-Err-converse_beside_workers-clause-told g c =
    let m = g.E.Engine.meaning in
    let gives = g.Q.Feeds.gives c.args.feeds.now in
    let first = wire (g.L.Link.line c.args.link.now) (g.L.Link.faults c.args.link.now) false in
    let mid = wire (g.L.Link.line c.converse_beside_workers.new.link) (g.L.Link.faults c.converse_beside_workers.new.link) c.converse_beside_workers.new.is_cut in
    let now = wire (g.L.Link.line c.let_all_go.new.link) (g.L.Link.faults c.let_all_go.new.link) c.let_all_go.new.is_cut in
    let os = c.in-Err-converse_beside_workers.sessions.items in
    let left = subst (λ n. IsLeft n g.N.Name.queues first mid os) (sym c.requires.hosts) c.in-Err-converse_beside_workers.ensures.fed in
    stopped_as m g.N.Name.hosts c.args.hosts g.N.Name.gives gives first now c.requires.hosts c.requires.gives (c.let_all_go.ensures.stopped first left)

pub returns-in-Err-converse_beside_workers-clause-faults_stay : goal.returns-in-Err-converse_beside_workers-clause-faults_stay
returns-in-Err-converse_beside_workers-clause-faults_stay g c =
    let m = g.E.Engine.meaning in
    let gives = g.Q.Feeds.gives c.args.feeds.now in
    let first = wire (g.L.Link.line c.args.link.now) (g.L.Link.faults c.args.link.now) false in
    let mid = wire (g.L.Link.line c.converse_beside_workers.new.link) (g.L.Link.faults c.converse_beside_workers.new.link) c.converse_beside_workers.new.is_cut in
    let os = c.in-Err-converse_beside_workers.sessions.items in
    let left = subst (λ n. IsLeft n g.N.Name.queues first mid os) (sym c.requires.hosts) c.in-Err-converse_beside_workers.ensures.fed in
    (c.let_all_go.ensures.stopped first left).stays

pub returns-in-Err-clause-told : goal.returns-in-Err-clause-told
returns-in-Err-clause-told g c = ([], [], went_none (g.L.Link.line c.args.link.now), nothing_served g.E.Engine.meaning c.args.hosts (g.Q.Feeds.gives c.args.feeds.now) (left_of (g.L.Link.line c.args.link.now)))
