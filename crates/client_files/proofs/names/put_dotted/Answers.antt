use Rattle.client_files.proofs.NameSteps.{put_coded}
use Rattle.client_files.proofs.names.put_dotted.Goals as goal

pub returns : goal.returns
returns c = put_coded _ _ _ _ _ _ _ c.rest_of-rest.ensures c.unescaped-byte.ensures c.in_ok-extend.ensures.ok c.rest_of-more.ensures c.in_ok-put_servers.ensures c.requires
