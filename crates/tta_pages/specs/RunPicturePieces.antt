-- The pieces of the fixed text of the script that draws the machine of a run.
use Rattle.std.specs.Prelude.{ℕ, List, codes}

-- the script that places the parts of the machine: files, immediate units and control above the buses, and units below
unfoldable pub run_picture_places_text : List ℕ
run_picture_places_text =
    codes "const LEFT=70,PITCH=30,boxes=[],busY=bus=>86+PITCH*bus,bottom=busY(names.bus.length-1);\nfunction draw(kind,given,...inner){\nconst element=document.createElementNS('http://www.w3.org/2000/svg',kind);\nfor(const name in given)element.setAttribute(name,given[name]);\nelement.append(...inner);\nreturn element;\n}\nfunction placeRow(parts,x,top,edge){\nfor(const name of parts){\nconst own=ports.filter(port=>port.part==name),width=Math.max(own.length*34,name.length*9+16,56);\nown.forEach((port,k)=>Object.assign(port,{x:x+width*(k+.5)/own.length,edge}));\nboxes.push({name,x,width,top});\nx+=width+16;\n}\nreturn x;\n}\nconst above=placeRow([...names.file,...names.imm,'gcu'],LEFT+10,6,52),below=placeRow(names.unit,LEFT+19,bottom+34,bottom+34),right=Math.max(above,below)+10;\n"

-- the script that draws a part, and a port with the buses that it joins
unfoldable pub run_picture_parts_text : List ℕ
run_picture_parts_text =
    codes "const center=(look,x,y,text)=>draw('text',{class:look,x,y,'text-anchor':'middle'},text);\nfunction partOf(box){\nconst middle=box.x+box.width/2,up=box.top<60;\nbox.shape=draw('rect',{class:'part',x:box.x,y:box.top,width:box.width,height:46,rx:4});\nbox.does=center('does',middle,box.top+(up?29:27),'');\nreturn [box.shape,center('name',middle,box.top+(up?15:41),box.name),box.does];\n}\nconst nameOf=port=>center('port',port.x,port.edge+(port.edge<60?-4:11),port.which);\nfunction portOf(port){\nconst joints=names.bus.map((name,bus)=>bus).filter(bus=>port.buses>>bus&1);\nconst far=busY(port.edge<60?Math.max(...joints):Math.min(...joints));\nconst dots=joints.map(bus=>draw('circle',{class:'joint',cx:port.x,cy:busY(bus),r:4}));\nreturn [draw('line',{class:'stub',x1:port.x,y1:port.edge,x2:port.x,y2:joints.length?far:port.edge}),...dots];\n}\n"

-- the script that draws the buses, and all of the machine
unfoldable pub run_picture_machine_text : List ℕ
run_picture_machine_text =
    codes "const busOf=(name,bus)=>[draw('line',{class:'bus',x1:LEFT,y1:busY(bus),x2:right,y2:busY(bus)}),draw('text',{x:LEFT-8,y:busY(bus)+5,'text-anchor':'end'},name)];\nconst acting=draw('g',{});\nfind('picture').append(draw('svg',{viewBox:'0 0 '+(right+10)+' '+(bottom+88)},\n...names.bus.flatMap(busOf),...ports.flatMap(portOf),...boxes.flatMap(partOf),...ports.map(nameOf),acting));\n"

-- the script that draws the moves of the current instruction: from a port onto the bus, and into a port
unfoldable pub run_picture_moves_text : List ℕ
run_picture_moves_text =
    codes "function portAt(place,into){\nconst [part,which]=place.split('.');\nreturn ports.find(port=>port.part==part&&port.which==(names.file.includes(part)?into?'w':'r':names.imm.includes(part)?'r':which));\n}\nfunction drawMove(act,bus){\nif(act.look=='plain')return [];\nconst y=busY(bus),from=portAt(act.source,false),to=portAt(act.target,true),acts=act.look=='active';\nif(!to)return [];\nconst start=from?'M'+from.x+' '+from.edge+'V'+y:'M'+LEFT+' '+y,middle=((from?from.x:LEFT)+to.x)/2;\nconst tip=to.edge<60?-7:7,arrow=acts?'m-6 '+-tip+'l6 '+tip+'l6 '+-tip:'';\nreturn [draw('path',{class:acts?'carries':'stops',d:start+'H'+to.x+'V'+to.edge+arrow}),\ncenter(acts?'carried':'stopped',middle,y-5,acts?shown(act.word):act.source)];\n}\n"

-- the script that marks the parts that act, and draws all moves of the current instruction
unfoldable pub run_picture_acts_text : List ℕ
run_picture_acts_text =
    codes "function showMoves(state){\nconst moves=state.acts||[],active=moves.filter(act=>act.look=='active'),long=/^.([^=]+)=/.exec(state.long||'');\nconst touched=new Set([...active.flatMap(act=>[act.source,act.target]),...long?[templates[long[1]]]:[]].map(place=>place.split('.')[0]));\nfor(const box of boxes){\nconst started=active.find(act=>act.target.startsWith(box.name+'.t.'));\nbox.shape.classList.toggle('acts',touched.has(box.name));\nbox.does.textContent=started?started.target.split('.')[2]:'';\n}\nacting.replaceChildren(...moves.flatMap(drawMove));\n}\n"
