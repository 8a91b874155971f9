-- What a link does with the frames that come on it (AFP over TCP; which frames end a link: this profile).
use Rattle.std.specs.Prelude.{◌≡◌, ℕ, Bool, true, false, List, [], ◌∷◌, ◌++◌, Option, Some, None, MatchOption}
use Rattle.afp_base.specs.declared.ids.LinkNumber.{LinkNumber}
use Rattle.afp_serial.specs.Went.{Step}
use Rattle.dsi_frame.specs.Frame.{Frame}
use Rattle.dsi_frame.specs.declared.frame.DsiCommand.{DsiCommand}
use Rattle.dsi_frame.specs.declared.frame.DsiCommand.TheVariants.{CloseSession, Command, GetStatus, OpenSession, Tickle, Write, Attention}
use Rattle.dsi_frame.specs.declared.frame.Reason.TheVariants.{Unexpected, Phase}
use Rattle.afp_server.specs.link.Did.{Did, nothing, is_bad}
use Rattle.afp_server.specs.link.GetStatus.{gets_status}
use Rattle.afp_server.specs.link.OpenSession.{OpensSession}
use Rattle.afp_server.specs.link.Calls.{AsksCall, command_ask, write_ask}
use Rattle.afp_server.specs.link.CloseSession.{ClosesSession, closes}
use Rattle.dsi_frame.specs.Replies.{listed}
use Rattle.afp_server.specs.declared.link.stage.Stage.{Stage}
use Rattle.afp_server.specs.declared.link.stage.Stage.TheVariants.{Fresh, Open, Closing}
use Rattle.afp_server.specs.declared.link.stage.FrameEnd.{FrameEnd}

-- a request before a session is open on the link
abbrev pub FreshDoes : List ℕ → ℕ → DsiCommand → Frame → Did → Type 0
FreshDoes block now GetStatus f did = did ≡ gets_status block Fresh f
FreshDoes block now OpenSession f did = OpensSession now f did
FreshDoes block now Command f did = did ≡ is_bad Phase Fresh
FreshDoes block now Write f did = did ≡ is_bad Phase Fresh
FreshDoes block now Tickle f did = did ≡ nothing Fresh
FreshDoes block now CloseSession f did = did ≡ closes []
FreshDoes block now Attention f did = did ≡ is_bad Unexpected Fresh

-- a request while a session is open on it
abbrev pub OpenDoes : List ℕ → ℕ → LinkNumber → DsiCommand → Frame → Did → Type 0
OpenDoes block now link GetStatus f did = did ≡ gets_status block (Open link) f
OpenDoes block now link OpenSession f did = did ≡ is_bad Phase (Open link)
OpenDoes block now link Command f did = AsksCall now link f (command_ask f) did
OpenDoes block now link Write f did = AsksCall now link f (write_ask f) did
OpenDoes block now link Tickle f did = did ≡ nothing (Open link)
OpenDoes block now link CloseSession f did = ClosesSession now link did
OpenDoes block now link Attention f did = did ≡ is_bad Unexpected (Open link)

-- a reply: only that to an Attention is expected
abbrev pub ReplyDoes : DsiCommand → Stage → Did → Type 0
ReplyDoes Attention stage did = did ≡ nothing stage
ReplyDoes GetStatus stage did = did ≡ is_bad Unexpected stage
ReplyDoes OpenSession stage did = did ≡ is_bad Unexpected stage
ReplyDoes Command stage did = did ≡ is_bad Unexpected stage
ReplyDoes Write stage did = did ≡ is_bad Unexpected stage
ReplyDoes Tickle stage did = did ≡ is_bad Unexpected stage
ReplyDoes CloseSession stage did = did ≡ is_bad Unexpected stage

-- What a frame does at a moment, by the phase and whether it is a reply. No frame is handled on a link that closes.
abbrev pub FrameDoes : List ℕ → ℕ → Stage → Bool → Frame → Did → Type 0
FrameDoes block now Closing reply f did = ⊥
FrameDoes block now Fresh true f did = ReplyDoes f.command Fresh did
FrameDoes block now Fresh false f did = FreshDoes block now f.command f did
FrameDoes block now (Open link) true f did = ReplyDoes f.command (Open link) did
FrameDoes block now (Open link) false f did = OpenDoes block now link f.command f did

abbrev pub Does : List ℕ → ℕ → Stage → Frame → Did → Type 0
Does block now stage f did = FrameDoes block now stage f.reply f did

-- The frames are handled in order, from one phase to another, with these steps and replies, on a server with this status block; the
-- last of them may end the link.
abbrev pub Script : List ℕ → Stage → List Frame → List Step → List Frame → Stage → Option FrameEnd → Type 0
Script block stage [] steps replies after end = (steps ≡ []) × (replies ≡ []) × (after ≡ stage) × (end ≡ None)
Script block stage (f ∷ frames) steps replies after end =
    (now : ℕ) × (did : Did) × (others : List Step) × (more : List Frame) × Does block now stage f did
    × (steps ≡ did.steps ++ others) × (replies ≡ listed did.reply ++ more)
    × MatchOption did.end
    (Script block did.stage frames others more after end)
    (λ e. (frames ≡ []) × (others ≡ []) × (more ≡ []) × (after ≡ did.stage) × (end ≡ Some e))
