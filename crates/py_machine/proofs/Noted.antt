-- What is remembered beside marks stays true as the marks go on.
use Rattle.std.proofs.Common.{◌≡◌, ℕ, Bool, true, false, cond, Option, Some, None, Result, Ok, Err, OnOk, refl, sym, ap, subst, ◌∙◌}
use Rattle.std.specs.Prelude.{is_some}
use Rattle.std.specs.Ordering.{nat_cmp}
use Rattle.std.specs.Cmp.Lexicographic.{slice_cmp, nat_list_cmp_total}
use Rattle.std.specs.Cmp.{nat_cmp_total}
use Rattle.std.specs.FinMap as finite
use Rattle.std.specs.FinMap.{nat_cmp-IsAntisymmetric}
use Rattle.std.proofs.lemmas.Option.{same_Some}
use Rattle.py_machine.specs.declared.marks.Marks.{Marks}
use Rattle.py_machine.specs.Marked.{Name, SetOf, with_member, has_member, IsIn}
use Rattle.py_machine.specs.Notes.{Seen, IsMarked, AreMarked, IsChangedIn}
use Rattle.py_machine.proofs.Sets.{same, from_same, kept, newly, there, name_there, names_antisymmetric, Names}

is_same : Name → Name → Bool
is_same = same nat_list_cmp_total names_antisymmetric

pub name_kept : (s : Names) (x y : Name) → has_member s y ≡ true → has_member (with_member s x) y ≡ true
name_kept s x y h = (kept nat_list_cmp_total names_antisymmetric s x y (record { is = h })).is

pub name_new : (s : Names) (x : Name) → has_member (with_member s x) x ≡ true
name_new s x = (newly nat_list_cmp_total names_antisymmetric s x).is

pub number_new : (s : SetOf nat_cmp) (at : ℕ) → has_member (with_member s at) at ≡ true
number_new s at = (newly nat_cmp_total nat_cmp-IsAntisymmetric s at).is

unit_held : (o : Option (Unit {0})) → is_some o ≡ true → o ≡ Some tt
unit_held (Some u) h = refl
unit_held None h = cc

pub number_there : (s : SetOf nat_cmp) (at : ℕ) → has_member s at ≡ true → with_member s at ≡ s
number_there s at h = there nat_cmp_total nat_cmp-IsAntisymmetric s at (unit_held (finite.get s at) h)

-- ---- what holds after want of memory too

pub on_ok : {A E P : Type 0} (r : Result A E) → P → OnOk r P
on_ok (Ok a) h = h
on_ok (Err e) h = tt

-- ---- nothing is remembered

pub none_marked : (marks : Marks) → AreMarked marks finite.empty
none_marked marks name bound h = let e : None ≡ Some bound = sym (finite.get-empty (slice_cmp nat_cmp) name) ∙ h in cc

-- ---- one name more is marked

looked_on : (bound : Bool) (marks : Marks) (x name : Name) → IsMarked bound marks name → IsMarked bound (record marks { looked = with_member marks.looked x }) name
looked_on true marks x name h = h
looked_on false marks x name h = name_kept marks.looked x name h

pub looked_more : (marks : Marks) (seen : Seen) (x : Name) → AreMarked marks seen → AreMarked (record marks { looked = with_member marks.looked x }) seen
looked_more marks seen x h name bound e = looked_on bound marks x name (h name bound e)

bound_on : (bound : Bool) (marks : Marks) (x name : Name) → IsMarked bound marks name → IsMarked bound (record marks { bound = with_member marks.bound x }) name
bound_on true marks x name h = name_kept marks.bound x name h
bound_on false marks x name h = h

pub bound_more : (marks : Marks) (seen : Seen) (x : Name) → AreMarked marks seen → AreMarked (record marks { bound = with_member marks.bound x }) seen
bound_more marks seen x h name bound e = bound_on bound marks x name (h name bound e)

changed_on : (bound : Bool) (marks : Marks) (at : ℕ) (name : Name) → IsMarked bound marks name → IsMarked bound (record marks { changed = with_member marks.changed at }) name
changed_on true marks at name h = h
changed_on false marks at name h = h

pub changed_more : (marks : Marks) (seen : Seen) (at : ℕ) → AreMarked marks seen → AreMarked (record marks { changed = with_member marks.changed at }) seen
changed_more marks seen at h name bound e = changed_on bound marks at name (h name bound e)

drew_on : (bound : Bool) (marks : Marks) (name : Name) → IsMarked bound marks name → IsMarked bound (record marks { drew = true }) name
drew_on true marks name h = h
drew_on false marks name h = h

pub drew_more : (marks : Marks) (seen : Seen) → AreMarked marks seen → AreMarked (record marks { drew = true }) seen
drew_more marks seen h name bound e = drew_on bound marks name (h name bound e)

-- ---- one name more is remembered

remembered_by : (marks : Marks) (seen : Seen) (x name : Name) (is bound b : Bool) → is_same name x ≡ b → IsMarked is marks x → AreMarked marks seen
    → cond b (Some is) (finite.get seen name) ≡ Some bound → IsMarked bound marks name
unfolding is_same
remembered_by marks seen x name is bound true e m h g =
    subst (λ z. IsMarked bound marks z) (sym (from_same nat_list_cmp_total names_antisymmetric name x e)) (subst (λ z. IsMarked z marks x) (same_Some is bound g) m)
remembered_by marks seen x name is bound false e m h g = h name bound g

pub remembered : (marks : Marks) (seen : Seen) (x : Name) (is : Bool) → IsMarked is marks x → AreMarked marks seen → AreMarked marks (finite.insert seen x is)
unfolding is_same
remembered marks seen x is m h name bound g =
    remembered_by marks seen x name is bound (is_same name x) refl m h (sym (finite.get-insert nat_list_cmp_total seen x is name) ∙ g)

-- ---- what is remembered is marked, so one look more changes nothing

look_again_by : (marks : Marks) (seen : Seen) (x : Name) (o : Option Bool) → finite.get seen x ≡ o → AreMarked marks seen → is_some o ≡ true
    → cond (has_member marks.bound x) marks.looked (with_member marks.looked x) ≡ marks.looked
look_again_by marks seen x None e h is = cc
look_again_by marks seen x (Some true) e h is = ap (λ b. cond b marks.looked (with_member marks.looked x)) (h x true e)
look_again_by marks seen x (Some false) e h is = either (has_member marks.bound x) (name_there marks.looked x (h x false e))
  where
    either : (b : Bool) → with_member marks.looked x ≡ marks.looked → cond b marks.looked (with_member marks.looked x) ≡ marks.looked
    either true i = refl
    either false i = i

pub look_again : (marks : Marks) (seen : Seen) (x : Name) → AreMarked marks seen → is_some (finite.get seen x) ≡ true
    → cond (has_member marks.bound x) marks.looked (with_member marks.looked x) ≡ marks.looked
look_again marks seen x h is = look_again_by marks seen x (finite.get seen x) refl h is

-- ---- both

abbrev pub Kept : Marks → Seen → Option ℕ → Type 0
Kept marks seen latest = AreMarked marks seen × IsChangedIn marks latest

looked_still : (marks : Marks) (x : Name) (latest : Option ℕ) → IsChangedIn marks latest → IsChangedIn (record marks { looked = with_member marks.looked x }) latest
looked_still marks x None h = h
looked_still marks x (Some at) h = h

bound_still : (marks : Marks) (x : Name) (latest : Option ℕ) → IsChangedIn marks latest → IsChangedIn (record marks { bound = with_member marks.bound x }) latest
bound_still marks x None h = h
bound_still marks x (Some at) h = h

drew_still : (marks : Marks) (latest : Option ℕ) → IsChangedIn marks latest → IsChangedIn (record marks { drew = true }) latest
drew_still marks None h = h
drew_still marks (Some at) h = h

pub kept_looked : (marks : Marks) (seen : Seen) (latest : Option ℕ) (x : Name) → Kept marks seen latest → Kept (record marks { looked = with_member marks.looked x }) seen latest
kept_looked marks seen latest x h = (looked_more marks seen x h.0, looked_still marks x latest h.1)

pub kept_bound : (marks : Marks) (seen : Seen) (latest : Option ℕ) (x : Name) → Kept marks seen latest → Kept (record marks { bound = with_member marks.bound x }) seen latest
kept_bound marks seen latest x h = (bound_more marks seen x h.0, bound_still marks x latest h.1)

pub kept_drew : (marks : Marks) (seen : Seen) (latest : Option ℕ) → Kept marks seen latest → Kept (record marks { drew = true }) seen latest
kept_drew marks seen latest h = (drew_more marks seen h.0, drew_still marks latest h.1)

pub kept_changed : (marks : Marks) (seen : Seen) (latest : Option ℕ) (at : ℕ) → Kept marks seen latest → Kept (record marks { changed = with_member marks.changed at }) seen (Some at)
kept_changed marks seen latest at h = (changed_more marks seen at h.0, number_new marks.changed at)
