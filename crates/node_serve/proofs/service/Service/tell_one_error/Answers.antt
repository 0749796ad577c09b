use Rattle.std.proofs.Common.{rules, ◌≡◌, ◌+◌, ◌<◌, true, false, length, get_or, refl, subst, arith}
use Rattle.node_serve.specs.Sent.{wire}
use Rattle.node_serve.proofs.Passing.{errors_on}
use Rattle.node_serve.proofs.Serving.{error_told, error_cut}
use Rattle.node_serve.proofs.service.Service.tell_one_error.Goals as goal

pub returns-in-Ok-clause-serves : goal.returns-in-Ok-clause-serves
returns-in-Ok-clause-serves g c = λ start s.
    let old = wire (g.L.Link.line c.args.link.now) (g.L.Link.faults c.args.link.now) c.args.is_cut.now in
    let new = wire (g.L.Link.line c.tell_error.new.link) (g.L.Link.faults c.tell_error.new.link) c.tell_error.new.is_cut in
    let errors = c.args.self.now.node.errors.items in
    let told = c.args.self.now.told in
    let e = c.index-errors-at.result in
    let same : c.as_slice-errors.result.now ≡ errors = search rules in
    let below : told < length c.as_slice-errors.result.now = omega arith in
    let within : told < length errors = subst (λ es. told < length es) same below in
    let is : e ≡ get_or errors told e = subst (λ es. e ≡ get_or es told e) same c.index-errors-at.is in
    error_told g.N.Name.hosts g.N.Name.queues start old new c.args.self.now.framer c.args.self.now.node told (told + 1) (λ few. omega (arith, within))
    (errors_on true old old new errors told told (told + 1) (told + 1) e is within refl refl c.in-Ok.ensures.tells (λ start taken lists others i. i)) s

pub returns-in-Err-clause-serves : goal.returns-in-Err-clause-serves
returns-in-Err-clause-serves g c = λ start s.
    let old = wire (g.L.Link.line c.args.link.now) (g.L.Link.faults c.args.link.now) c.args.is_cut.now in
    let new = wire (g.L.Link.line c.tell_error.new.link) (g.L.Link.faults c.tell_error.new.link) c.tell_error.new.is_cut in
    let errors = c.args.self.now.node.errors.items in
    let told = c.args.self.now.told in
    let e = c.index-errors-at.result in
    let same : c.as_slice-errors.result.now ≡ errors = search rules in
    let below : told < length c.as_slice-errors.result.now = omega arith in
    let within : told < length errors = subst (λ es. told < length es) same below in
    let is : e ≡ get_or errors told e = subst (λ es. e ≡ get_or es told e) same c.index-errors-at.is in
    error_cut g.N.Name.hosts g.N.Name.queues start old new c.args.self.now.framer c.args.self.now.node told (told + 1)
    (errors_on false old old new errors told told (told + 1) (told + 1) e is within refl refl c.in-Err.ensures.tells (λ start taken lists others i. i)) s
