-- `into_disk` hands what the pointer owns to the box.
use Rattle.std.proofs.Common.{◌≡◌, List, [], ◌∷◌, ◌++◌, refl, sym, subst}
use Rattle.std.specs.Prelude.{Option, Some, is_some, true}
use mir.Val.{Val, vptr, vstruct, vcons, vnil}
use mir.Raw.{raw as bare}
use base.Logic.{SProp, ent, emp, never, id⊢, fst∗}
use base.Fml.{ftrue}
use prog.Wp.{WpFn}
use types.Logic.{sem}
use types.Kit.{‵, raw, ◌⊛◌, ◌$◌, ◌∵◌, !, qed, by, move, keep, split, fsplit, fjoin, suffices, use0, rewrite}
use types.Run.{stop, fld, of_opd, no_more, and_then, returns, enter}
use types.ByLocal.{alloc_all, pass_all, free_all, look_at, get, get_in, sets}
use types.Part.{agg, sub, whole}
use contract.Monad.{fact, fact_i}
use contract.Running.{tables}
use denote.Exit.{yes}
use denote.RattleType.{RattleType, owns}
use denote.Signature.{types_at, plain}
use denote.Memory.{lone}
use denote.RawPtr.{Ptr, block_ptr, null_ptr, ptr_val, in_a_block}
use denote.Steps.{nothing, heard}
use denote.Triple.Walked.{Stays, stay_dropped, walk_of, Goes-dropped}
use Rattle.std.specs.contracts.impls.GlobalAllocator.TheImpl.{ghosts}
use Rattle.std.specs.Box.Ownership.{box_owns}
use Rattle.std.proofs.alloc.Calls.{handle_tells}
use Rattle.std.proofs.raw_atomic.Walks.{proved_at, leaves}
use Rattle.backed_store.specs.contracts.disk.Disk as unit_disk
use Rattle.c_calls.specs.Held.{Content, held, disk_in, the_heap}
use Rattle.c_calls.proofs.Values.{both, Z, LZ, Owner, al, found_disk, loose_good, loose_in, owner_out}
use Rattle.c_calls.specs.contracts.owner.Owner.into_disk.{ended, clauses}
use Rattle.c_calls.specs.contracts.owner.Owner.into_disk.Key.{name as #self}
use Rattle.c_calls.proofs.owner.Owner.into_disk.Statement.{statement}
use Rattle.c_calls.proofs.owner.Owner.into_disk.Code as code

pub into_disk_spec : {M : Type 1} → statement M
into_disk_spec 𝓤 𝓛 𝓜 𝓡 wired =
    let H = 𝓛.H in let 𝓣 = tables 𝓤 H 𝓜 𝓡 𝓡.env in let R : RattleType = unit_disk.the_row in let En = ended in let c = clauses 𝓛 𝓜.mem 𝓡.returns in let fn = code.function in
    let hs : Stays En.signature.params En.kept = (stay_dropped (plain (λ _. Owner)) yes, (stay_dropped (plain (λ _. Z)) yes, tt)) in
    proved_at 𝓛 En hs c 𝓜 𝓡 (Goes-dropped 𝓛 0 (plain (λ _. Owner)) yes (λ κs x f. refl), (Goes-dropped 𝓛 0 (plain (λ _. Z)) yes (λ κs x f. refl), tt)) #self fn (code.unfolded 𝓤 H 𝓜 𝓡 wired) (λ z are.
    let κs = z.0.0 in let v = z.0.3.0 in let a = z.0.3.1.0 in let Post : Val → SProp 𝓤 = (walk_of 𝓛 En hs c).post z in let Run : List Val → SProp 𝓤 = λ ws. WpFn 𝓤 H 𝓣.C 𝓣.Λ fn ws Post in
    qed 𝓛 ((‵ ftrue ⊛ ‵ (owns (types_at En.signature.params κs) z.0.3 z.0.4)) ∷ raw (fact 𝓤 (is_some (disk_in v.content) ≡ true)) ∷ []) ∵ move ! (1 ∷ []) $ heard ! (is_some (disk_in v.content) ≡ true) (λ there.
    let found_one = found_disk v.content there in split ! $ move ! (1 ∷ []) $ fsplit ! $ owner_out ! v z.0.4.0 (λ ws. rewrite ! 0 (λ (o : Option Content). ‵ (held v.at o)) found_one.1 refl $
    in_a_block ! v.at (λ p. box_owns (ghosts.dealloc_token the_heap) R p found_one.0) (fst∗ 𝓤 (never 𝓤) (sem 𝓛 (ghosts.dealloc_token the_heap (bare (lone R.mir)) null_ptr))) (λ b o e.
    move ! (1 ∷ []) $ fsplit ! $ handle_tells (al R Z LZ ghosts) ! a z.0.4.1.0 (λ h ea fits.
    let w : Val = vstruct (vcons (vptr b o) vnil) in let is : z.0.4.0 ≡ w ∷ [] = subst (λ (p : Ptr). z.0.4.0 ≡ vstruct (vcons (ptr_val p) vnil) ∷ []) e ws in let made = loose_good R Z LZ ghosts b o h fits in
    suffices ! (Run (w ∷ h ∷ [])) (subst (λ (us : List Val). ent 𝓤 (Run (w ∷ h ∷ [])) (Run us)) (sym (λ i. is i ++ (ea i ++ []))) (id⊢ 𝓤 (Run (w ∷ h ∷ [])))) $
    enter ! 𝓣.C 𝓣.Λ fn (w ∷ h ∷ []) Post $ alloc_all ! (λ l. pass_all ! refl ((tt, (tt, tt)), (fits, tt)) $
    sets ! (of_opd ! (get_in ! (fld ! refl (stop !)) (sub ! 0 refl (whole !)))) refl (tt, tt) $ sets ! (of_opd ! (get ! refl)) refl (tt, tt) $
    sets ! (agg ! (and_then ! (get ! refl) (and_then ! (get ! refl) (no_more !)))) refl made $
    move ! (2 ∷ 0 ∷ []) $ loose_in R Z LZ ghosts ! b o h a found_one.0 $
    use0 𝓛 (raw (fact 𝓤 (v.content ≡ Some (Content.Disk found_one.0)))) (fact_i 𝓤 (v.content ≡ Some (Content.Disk found_one.0)) (emp 𝓤) found_one.1) $ nothing ! $ nothing ! $ fjoin ! $ nothing ! $ fjoin ! $
    returns ! (look_at ! 0 refl) $ free_all ! refl $ keep ! (4 ∷ 0 ∷ 2 ∷ 1 ∷ []) $ by ! (leaves 𝓛 En hs c z (both (vptr b o) h) (record { at = block_ptr b o; alloc = a; value = found_one.0 }) (tt, (tt, tt)) (tt, (tt, tt)))))))))
