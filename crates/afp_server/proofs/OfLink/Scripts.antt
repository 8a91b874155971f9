-- Scripts that grow at their end.
use Rattle.std.proofs.Common.{◌≡◌, ℕ, List, [], ◌∷◌, ◌++◌, refl, sym, ap, ◌∙◌, subst, append_assoc, append-nil}
use Rattle.std.specs.Prelude.{Option, Some, None, MatchOption}
use Rattle.afp_serial.specs.Went.{Step}
use Rattle.dsi_frame.specs.Frame.{Frame}
use Rattle.afp_server.specs.link.Did.{Did}
use Rattle.dsi_frame.specs.Replies.{listed}
use Rattle.afp_server.specs.link.Script.{Does, Script}
use Rattle.afp_server.specs.declared.link.stage.FrameEnd.{FrameEnd}
use Rattle.afp_server.specs.declared.link.stage.Stage.{Stage}

-- one frame alone
script-end : (block : List ℕ) (stage : Stage) (o : Option FrameEnd)
    → MatchOption o (Script block stage [] [] [] stage o)
    (λ e. ((let frames : List Frame = [] in frames) ≡ []) × ((let steps : List Step = [] in steps) ≡ []) × ((let replies : List Frame = [] in replies) ≡ []) × (stage ≡ stage) × (o ≡ Some e))
script-end block stage None = (refl, refl, refl, refl)
script-end block stage (Some e) = (refl, refl, refl, refl, refl)

script-next : (block : List ℕ) (next mid after : Stage) (frames others : List Frame) (ss ts : List Step) (rs us : List Frame) (o end : Option FrameEnd)
    → (Script block next frames ss rs mid None → Script block next others ts us after end)
    → MatchOption o (Script block next frames ss rs mid None) (λ e. (frames ≡ []) × (ss ≡ []) × (rs ≡ []) × (mid ≡ next) × ((let none : Option FrameEnd = None in none) ≡ Some e))
    → MatchOption o (Script block next others ts us after end) (λ e. (others ≡ []) × (ts ≡ []) × (us ≡ []) × (after ≡ next) × (end ≡ Some e))
script-next block next mid after frames others ss ts rs us None end go rest = go rest
script-next block next mid after frames others ss ts rs us (Some e) end go rest = absurd (cc (rest.4))

pub script-join : (block : List ℕ) (stage mid after : Stage) (frames others : List Frame) (ss ts : List Step) (rs us : List Frame) (end : Option FrameEnd)
    → Script block stage frames ss rs mid None → Script block mid others ts us after end → Script block stage (frames ++ others) (ss ++ ts) (rs ++ us) after end
script-join block stage mid after [] others ss ts rs us end s t =
    subst (λ (steps : List Step). Script block stage others (steps ++ ts) (rs ++ us) after end) (sym s.0)
    (subst (λ (replies : List Frame). Script block stage others ts (replies ++ us) after end) (sym s.1)
    (subst (λ (m : Stage). Script block m others ts us after end) s.2 t))
script-join block stage mid after (f ∷ frames) others ss ts rs us end (now, did, steps, replies, does, all, sent, rest) t = (
  now,
  did,
  steps ++ ts,
  replies ++ us,
  does,
  ap (λ (l : List Step). l ++ ts) all ∙ append_assoc did.steps steps ts,
  ap (λ (l : List Frame). l ++ us) sent ∙ append_assoc (listed did.reply) replies us,
  script-next block did.stage mid after frames (frames ++ others) steps (steps ++ ts) replies (replies ++ us) did.end end
      (λ s. script-join block did.stage mid after frames others steps ts replies us end s t) rest,
)

pub script-one : (block : List ℕ) (now : ℕ) (stage : Stage) (f : Frame) (did : Did) → Does block now stage f did
    → Script block stage (f ∷ []) did.steps (listed did.reply) did.stage did.end
script-one block now stage f did does =
    (now, did, [], [], does, sym (append-nil did.steps), sym (append-nil (listed did.reply)), script-end block did.stage did.end)
